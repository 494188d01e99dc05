-- A buffer in which bytes are written from an offset on; that of a line has 128 bytes.
use Rattle.std.specs.Prelude.{◌≡◌, List, ◌++◌, ℕ, ◌+◌, ◌≤◌, length, drop}
use Rattle.std.proofs.lemmas.List.Edits.{sets}
use Rattle.rules.specs.Print.{Line}
use Rattle.text.specs.Text.{line_text}

-- the buffer l became m when these bytes were written from an offset on, and r is the offset behind them
pub record Wrote (bytes : List ℕ) (at : ℕ) (l : List ℕ) (r : ℕ) (m : List ℕ) : Type 0 where
  pub end : r ≡ at + length bytes
  pub holds : m ≡ sets l at bytes

-- the buffer m is these bytes and then those of the buffer l behind them, and r is how many they are, for which there is room
abbrev pub Put : List ℕ → List ℕ → ℕ → List ℕ → Type 0
Put bytes l r m = (r ≡ length bytes) × (m ≡ bytes ++ drop (length bytes) l) × (r ≤ 128) × (length m ≡ 128)

-- the same of a line's bytes
abbrev pub Printed : Line → List ℕ → ℕ → List ℕ → Type 0
Printed line = Put (line_text line)
