-- What turns leave in the lent slices: the state and the records.
use Rattle.std.specs.Prelude.{◌≡◌, List, ℕ}
use Rattle.rules.specs.State.{State}
use Rattle.rules.specs.Execution.{Reply}
use Rattle.rules.specs.Step.{records_of, prices_of}
use Rattle.state.specs.View.{state_of}
use Rattle.state.specs.Lent.{LentMut}
use Rattle.records.specs.Records.{AddsPriced}

-- the state is that of the reply, and the records of its turns are added with their leg prices
pub record Goes (longs words list : List ℕ) (at : ℕ) (longs' words' list' : List ℕ) (r : ℕ) (q : State → Reply) : Type 0 where
  pub state : state_of longs' words' ≡ (q (state_of longs words)).state
  pub records : AddsPriced list at list' r (records_of (q (state_of longs words)).turns) (prices_of (q (state_of longs words)).turns)

-- the same said of the lent slices themselves, for a contract
abbrev pub Plays : LentMut → LentMut → LentMut → ℕ → ℕ → (State → Reply) → Type 0
Plays longs words list at r q = Goes longs.entry.now words.entry.now list.entry.now at longs.exit.now words.exit.now list.exit.now r q
