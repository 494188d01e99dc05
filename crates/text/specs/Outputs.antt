-- An output of any length, in which bytes are put from an offset on, as far as it has room.
use Rattle.std.specs.Prelude.{◌≡◌, List, ℕ, ◌+◌, ◌≤◌, ◌<◌, min, length}
use Rattle.std.proofs.lemmas.List.Edits.{sets}
use Rattle.rules.specs.Print.{Line}
use Rattle.state.specs.Lent.{LentMut}
use Rattle.text.specs.Text.{line_text, lines_text}

-- the bytes of a line, at most
abbrev pub most_line : ℕ
most_line = 128

-- an output with these bytes from an offset on, as far as it has room, and the offset behind them
pub record Puts (text lent : List ℕ) (at r : ℕ) (out : List ℕ) : Type 0 where
  pub bytes : out ≡ sets lent at text
  pub end : r ≡ min (at + length text) (length lent)

-- one text behind the other, where `first k` are the bytes of the first k: none of them but the last passes an offset of the output, and where the output has room for one text more, no byte is left out
pub record PutsFirst (first : ℕ → List ℕ) (most more : ℕ) (lent : List ℕ) (at k r : ℕ) (out : List ℕ) : Type 0 where
  pub puts : Puts (first k) lent at r out
  pub before : (j : ℕ) → j < k → min (at + length (first j)) (length lent) ≤ most
  pub whole : most + more ≤ length lent → at ≤ most + more → at + length (first k) ≤ most + more

-- ---- said of a lent output, for contracts

-- these bytes, of which there are at most so many
abbrev pub PutsText : List ℕ → ℕ → LentMut → ℕ → ℕ → Type 0
PutsText bytes most out at r = Puts bytes out.entry.now at r out.exit.now × (length bytes ≤ most)

-- some lines
abbrev pub PutsLines : List Line → ℕ → LentMut → ℕ → ℕ → Type 0
PutsLines lines = PutsText (lines_text lines)

-- one line
abbrev pub PutsLine : Line → LentMut → ℕ → ℕ → Type 0
PutsLine line = PutsText (line_text line) most_line
