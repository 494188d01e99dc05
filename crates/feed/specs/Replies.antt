-- What a host and live are answered to message records, from the state in the lent slices, and the bytes of the answers.
use Rattle.std.specs.Prelude.{◌≡◌, List, [], ◌∷◌, ◌++◌, ℕ, zero, suc, ◌-◌, ◌*◌, ◌/◌, ◌≤◌, ◌<◌, max, length, get_or, drop}
use Rattle.rules.specs.Basics.{pick}
use Rattle.rules.specs.State.{State}
use Rattle.rules.specs.Refusals.{least_room, refusal}
use Rattle.rules.specs.Step as R
use Rattle.rules.specs.Tape.{message_bytes, Fields, fields_of, is_kind, message_from}
use Rattle.rules.specs.Print.{live_lines}
use Rattle.types.specs.View.{outcome_of}
use Rattle.state.specs.View.{state_of}
use Rattle.state.specs.Lent.{Lent, LentMut}
use Rattle.records.specs.Records.{width}
use Rattle.engine.specs.declared.Answer.{Answer}
use Rattle.engine.specs.Steps.{records_in, all_prices_in, places_in}
use Rattle.text.specs.Text.{lines_text}
use Rattle.text.specs.Answers.{outcome_text}
use Rattle.text.specs.Outputs.{Puts, PutsFirst}
use Rattle.feed.specs.declared.Cursor.{Cursor}

-- ---- the answer

-- the answer to a record's fields with a fill list of so many places; a record of no kind is turned back with 61
unfoldable pub answer_of : State → Fields → ℕ → R.Answer
answer_of s f room = pick (is_kind f.kind) (R.step s (message_from f) room) (R.turned_back s 61)

-- the same from its bytes
abbrev pub answer_to : State → List ℕ → ℕ → R.Answer
answer_to s p room = answer_of s (fields_of p) room

-- and from the lent slices: the places that are granted, where the list has them
abbrev pub answer_in : List ℕ → List ℕ → List ℕ → Fields → ℕ → R.Answer
answer_in longs words list f room = answer_of (state_of longs words) f (places_in longs words list room)

-- the number that turns a record back
abbrev pub number_of : State → Fields → ℕ → ℕ
number_of s f room = pick (is_kind f.kind) (refusal s (message_from f) room) 61

-- the same from the lent slices
abbrev pub number_in : List ℕ → List ℕ → List ℕ → Fields → ℕ → ℕ
number_in longs words list f room = number_of (state_of longs words) f (places_in longs words list room)

-- ---- its bytes

-- the bytes of an answer: the outcome's line, and then those of the records, each with its leg prices, and their averages
abbrev pub answer_text : R.Answer → List ℕ
answer_text a = outcome_text a.outcome ++ lines_text (live_lines a.fills a.prices)

-- ---- records one after another, each with a fill list of 2,000 places

-- the state after a record, and the bytes of its answer
abbrev pub after_record : State → List ℕ → State
after_record s p = (answer_to s p least_room).state

abbrev pub reply_text : State → List ℕ → List ℕ
reply_text s p = answer_text (answer_to s p least_room)

-- the bytes of an answer at most: 6,001 lines
abbrev pub most_reply : ℕ
most_reply = 768128

-- the state after some records, each answered from the state that the one before left, and the bytes of their answers
abbrev pub after_records : State → List (List ℕ) → State
after_records s [] = s
after_records s (p ∷ ps) = after_records (after_record s p) ps

abbrev pub replies_text : State → List (List ℕ) → List ℕ
replies_text s [] = []
replies_text s (p ∷ ps) = reply_text s p ++ replies_text (after_record s p) ps

-- the first n records of some bytes, one behind the other: each is the part that starts at its offset
abbrev pub records_from : ℕ → List ℕ → List (List ℕ)
records_from zero p = []
records_from (suc n) p = p ∷ records_from n (drop message_bytes p)

-- how many whole records they are
abbrev pub whole_records : List ℕ → ℕ
whole_records p = length p / message_bytes

-- ---- said of the lent slices

-- what `answer_of` promises, whole: the state, the outcome, and the records at the start of the list with their leg prices; what stands behind the records is as it was, and under a refusal every number is
pub record IsAnswer (longs words list : List ℕ) (f : Fields) (room : ℕ) (longs' words' list' : List ℕ) (r : Answer) : Type 0 where
  pub state : state_of longs' words' ≡ (answer_in longs words list f room).state
  pub outcome : outcome_of r.outcome ≡ (answer_in longs words list f room).outcome
  pub count : r.count ≡ length (answer_in longs words list f room).fills
  pub records : records_in list' r.count ≡ (answer_in longs words list f room).fills
  pub prices : all_prices_in list' r.count ≡ (answer_in longs words list f room).prices
  pub behind : (i : ℕ) → r.count * width ≤ i → get_or list' i 0 ≡ get_or list i 0
  pub sized : (length longs' ≡ length longs) × (length words' ≡ length words) × (length list' ≡ length list)
  pub inside : (r.count ≤ room) × (r.count * width ≤ length list)
  pub refused : 0 < number_in longs words list f room → (longs' ≡ longs) × (words' ≡ words) × (list' ≡ list)

-- a record is told: the bytes of its answer, the state after it; under a refusal every number is as it was
pub record IsTold (longs words list p lent : List ℕ) (at : ℕ) (longs' words' list' out : List ℕ) (r : ℕ) : Type 0 where
  pub puts : Puts (reply_text (state_of longs words) p) lent at r out
  pub few : length (reply_text (state_of longs words) p) ≤ most_reply
  pub state : state_of longs' words' ≡ after_record (state_of longs words) p
  pub refused : 0 < number_of (state_of longs words) (fields_of p) least_room → (longs' ≡ longs) × (words' ≡ words) × (list' ≡ list)

-- the records of an input between two cursors are told: the bytes of their answers and the state after them; none of them but the last passes an offset of the output, and where the output has room for one answer more, no byte is left out
pub record AreTold (input : List ℕ) (p : Cursor) (most : ℕ) (s : State) (lent : List ℕ) (s' : State) (r : Cursor) (out : List ℕ) : Type 0 where
  pub puts : PutsFirst (λ k. replies_text s (records_from k (drop (message_bytes * p.position) input))) most most_reply lent p.at (r.position - p.position) r.at out
  pub state : s' ≡ after_records s (records_from (r.position - p.position) (drop (message_bytes * p.position) input))
  pub inside : (p.position ≤ r.position) × (r.position ≤ max p.position (whole_records input))

-- as many are told as it takes to pass that offset, or all that are whole
pub record Runs (input : List ℕ) (p : Cursor) (most : ℕ) (s : State) (lent : List ℕ) (s' : State) (r : Cursor) (out : List ℕ) : Type 0 where
  pub told : AreTold input p most s lent s' r out
  pub end : r.position < whole_records input → most < r.at

-- ---- the same for contracts

abbrev pub Answers : LentMut → LentMut → LentMut → Fields → ℕ → Answer → Type 0
Answers longs words list f room r = IsAnswer longs.entry.now words.entry.now list.entry.now f room longs.exit.now words.exit.now list.exit.now r

abbrev pub Tells : LentMut → LentMut → LentMut → LentMut → ℕ → List ℕ → ℕ → Type 0
Tells longs words list out at p r =
    IsTold longs.entry.now words.entry.now list.entry.now p out.entry.now at longs.exit.now words.exit.now list.exit.now out.exit.now r

abbrev pub IsRun : LentMut → LentMut → LentMut → Lent → Cursor → ℕ → Cursor → Type 0
IsRun longs words out input p most r =
    Runs input.entry.now p most (state_of longs.entry.now words.entry.now) out.entry.now (state_of longs.exit.now words.exit.now) r out.exit.now
