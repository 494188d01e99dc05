-- What an opening makes of two lent slices: the state that it begins with, or its number and nothing else.
use Rattle.std.specs.Prelude.{◌≡◌, true, List, ℕ, ◌<◌, eqb, length}
use Rattle.rules.specs.Basics.{pick}
use Rattle.rules.specs.Strategy as S
use Rattle.rules.specs.State.{State}
use Rattle.rules.specs.Run.{Opened, refused_opening, started, opening}
use Rattle.state.specs.Layout.{is_sized}
use Rattle.state.specs.View.{state_of}
use Rattle.state.specs.Lent.{LentMut}

-- an opening by its number, 0 for none, and its state
abbrev pub opened_by : ℕ → State → Opened
opened_by n s = pick (eqb n 0) (started s) (refused_opening n)

-- r is the number of the opening, 10 where the slices are no state's; where it is 0 they hold the state that o begins with, whatever they held; else they are as they were
pub record Opens (longs words : List ℕ) (o : S.Strategy) (r : ℕ) (longs' words' : List ℕ) : Type 0 where
  pub number : r ≡ pick (is_sized longs words) (S.opening_refusal o) 10
  pub answer : is_sized longs words ≡ true → opened_by r (state_of longs' words') ≡ opening o
  pub refused : 0 < r → (longs' ≡ longs) × (words' ≡ words)
  pub sized : (length longs' ≡ length longs) × (length words' ≡ length words)

-- the same of lent slices
abbrev pub IsOpened : LentMut → LentMut → S.Strategy → ℕ → Type 0
IsOpened longs words o r = Opens longs.entry.now words.entry.now o r longs.exit.now words.exit.now
