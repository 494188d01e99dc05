-- What a message leaves in the lent slices, and its answer.
use Rattle.std.specs.Prelude.{◌≡◌, List, ℕ, ◌*◌, ◌/◌, ◌≤◌, ◌<◌, min, length, get_or}
use Rattle.rules.specs.Basics.{pick}
use Rattle.rules.specs.Turn.{Fill}
use Rattle.rules.specs.LegPrices.{LegPrices}
use Rattle.rules.specs.Messages.{Message}
use Rattle.rules.specs.Refusals.{refusal}
use Rattle.rules.specs.Step as R
use Rattle.types.specs.View.{from, outcome_of}
use Rattle.state.specs.Layout.{is_sized}
use Rattle.state.specs.View.{state_of}
use Rattle.state.specs.Lent.{LentMut}
use Rattle.records.specs.Records.{width, record_in, prices_in, AddsPriced}
use Rattle.engine.specs.declared.Answer.{Answer}

-- the first n records of a list
abbrev pub records_in : List ℕ → ℕ → List Fill
records_in list n = from (record_in list) 0 n

-- and the leg prices of each
abbrev pub all_prices_in : List ℕ → ℕ → List LegPrices
all_prices_in list n = from (prices_in list) 0 n

-- the places that a message has for its records: those of the list, and no more than the caller grants; none where the slices are no state's
abbrev pub places_in : List ℕ → List ℕ → List ℕ → ℕ → ℕ
places_in longs words list room = pick (is_sized longs words) (min room (length list / width)) 0

-- the number that turns a message back
abbrev pub refusal_in : List ℕ → List ℕ → List ℕ → Message → ℕ → ℕ
refusal_in longs words list m room = refusal (state_of longs words) m (places_in longs words list room)

-- the answer to it
abbrev pub answer_in : List ℕ → List ℕ → List ℕ → Message → ℕ → R.Answer
answer_in longs words list m room = R.step (state_of longs words) m (places_in longs words list room)

-- a message that is not refused
pub record IsAccepted (longs words list : List ℕ) (m : Message) (longs' words' list' : List ℕ) (r : Answer) : Type 0 where
  pub state : state_of longs' words' ≡ (R.accepted (state_of longs words) m).state
  pub outcome : outcome_of r.outcome ≡ (R.accepted (state_of longs words) m).outcome
  pub records : AddsPriced list 0 list' r.count (R.accepted (state_of longs words) m).fills (R.accepted (state_of longs words) m).prices

-- what `step` promises, whole: the state, the outcome, and the records at the start of the list with their leg prices; what stands behind them is as it was, and under a refusal every number is
pub record IsStep (longs words list : List ℕ) (m : Message) (room : ℕ) (longs' words' list' : List ℕ) (r : Answer) : Type 0 where
  pub state : state_of longs' words' ≡ (answer_in longs words list m room).state
  pub outcome : outcome_of r.outcome ≡ (answer_in longs words list m room).outcome
  pub count : r.count ≡ length (answer_in longs words list m room).fills
  pub records : records_in list' r.count ≡ (answer_in longs words list m room).fills
  pub prices : all_prices_in list' r.count ≡ (answer_in longs words list m room).prices
  pub behind : (i : ℕ) → r.count * width ≤ i → get_or list' i 0 ≡ get_or list i 0
  pub sized : (length longs' ≡ length longs) × (length words' ≡ length words) × (length list' ≡ length list)
  pub inside : (r.count ≤ room) × (r.count * width ≤ length list)
  pub refused : 0 < refusal_in longs words list m room → (longs' ≡ longs) × (words' ≡ words) × (list' ≡ list)

-- both said of the lent slices, for contracts
abbrev pub Accepts : LentMut → LentMut → LentMut → Message → Answer → Type 0
Accepts longs words list m r = IsAccepted longs.entry.now words.entry.now list.entry.now m longs.exit.now words.exit.now list.exit.now r

abbrev pub Steps : LentMut → LentMut → LentMut → Message → ℕ → Answer → Type 0
Steps longs words list m room r =
    IsStep longs.entry.now words.entry.now list.entry.now m room longs.exit.now words.exit.now list.exit.now r
