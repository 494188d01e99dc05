-- How bytes are counted.
use Rattle.std.specs.Prelude.{ℕ, min}

-- up to so many
abbrev pub counted : ℕ → ℕ
counted n = min n 1_000_000_000_000_000_000
