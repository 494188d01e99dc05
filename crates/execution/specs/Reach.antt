-- Who trades with the legs.
use Rattle.std.specs.Prelude.{Bool, ◌&&◌, ℕ, leb}
use Rattle.rules.specs.Prices.{Derived, exists}
use Rattle.rules.specs.Turn.{key_of}

-- a limit "at or through" a derived price that exists
abbrev pub at_or_through : Bool → ℕ → Derived → Bool
at_or_through buy limit d = exists d && leb (key_of buy d.price) (key_of buy limit)
