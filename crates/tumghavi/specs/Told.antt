-- What a host is told of a message record, in numbers, and what it finds in its arrays then.
use Rattle.std.specs.Prelude.{◌≡◌, List, [], ℕ, ◌*◌, ◌/◌, ◌≤◌, eqb, pos, length, get_or}
use Rattle.rules.specs.Basics.{pick}
use Rattle.rules.specs.Average as A
use Rattle.rules.specs.Outcome as O
use Rattle.rules.specs.Outcome.{Cause, by_time, by_order, by_legs, by_cancel, Noted, Placed, Begun, Joined, Ended, Refused}
use Rattle.rules.specs.Spelling as S
use Rattle.rules.specs.Step as R
use Rattle.rules.specs.Tape.{Fields, message_bytes, fields_of}
use Rattle.state.specs.View.{state_of}
use Rattle.state.specs.Lent.{Lent, LentMut}
use Rattle.records.specs.Records.{width}
use Rattle.engine.specs.Steps.{records_in, all_prices_in}
use Rattle.feed.specs.Replies.{answer_of}
use Rattle.tumghavi.specs.declared.Outcome.{Outcome}
use Rattle.tumghavi.specs.declared.Average.{Average}
use Rattle.tumghavi.specs.declared.Reply.{Reply}

-- ---- an outcome in numbers

-- the number of a cause
abbrev pub cause_number : Cause → ℕ
cause_number by_time = 1
cause_number by_order = 2
cause_number by_legs = 3
cause_number by_cancel = 4

-- kind, cause, number of a refusal, fills, units and deadline
abbrev pub numbers : ℕ → ℕ → ℕ → ℕ → ℕ → ℕ → Outcome
numbers kind cause number fills units deadline = record { kind = kind; cause = cause; number = number; fills = fills; units = units; deadline = deadline }

-- an outcome in numbers, 0 for each that it does not have
abbrev pub numbers_of : O.Outcome → Outcome
numbers_of (Noted n) = numbers 1 0 0 n 0 0
numbers_of (Placed u n) = numbers 2 0 0 n u 0
numbers_of (Begun t) = numbers 3 0 0 0 0 t
numbers_of (Joined u) = numbers 4 0 0 0 u 0
numbers_of (Ended c n) = numbers 5 (cause_number c) 0 n 0 0
numbers_of (Refused k) = numbers 6 0 k 0 0 0

-- ---- an average in numbers

-- kind, quotient and remainder, 0 for each that there is not
abbrev pub average_numbers : A.Average → Average
average_numbers A.none = record { kind = 1; quotient = pos 0; remainder = 0 }
average_numbers (A.exact q r) = record { kind = 2; quotient = q; remainder = r }

-- ---- a form

-- what a writer gives
abbrev pub reply_of : Reply → S.Reply
reply_of r = record { number = r.number; size = r.size }

-- what it gives for a tape and a lent output, and the output then
abbrev pub Formed : Lent → LentMut → Reply → Type 0
Formed tape out r = (reply_of r ≡ S.reply_to tape.entry.now out.entry.now) × (out.exit.now ≡ S.buffer_after tape.entry.now out.entry.now)

-- ---- what is told

-- the fields of a record's bytes; bytes of another size are no record, and read as one of kind 0, which is none
abbrev pub record_of : List ℕ → Fields
record_of p = fields_of (pick (eqb (length p) message_bytes) p [])

-- the places of a list
abbrev pub places : List ℕ → ℕ
places list = length list / width

-- the answer to a record's fields, with all places of the list
abbrev pub told_in : List ℕ → List ℕ → List ℕ → Fields → R.Answer
told_in longs words list f = answer_of (state_of longs words) f (places list)

-- what a message leaves, whole: the state, the outcome, and as many records at the start of the list as it counts, with their leg prices; what stands behind them is as it was, and where the outcome is a refusal every number is
pub record IsTold (longs words list : List ℕ) (f : Fields) (longs' words' list' : List ℕ) (r : Outcome) : Type 0 where
  pub state : state_of longs' words' ≡ (told_in longs words list f).state
  pub outcome : r ≡ numbers_of (told_in longs words list f).outcome
  pub count : r.fills ≡ length (told_in longs words list f).fills
  pub records : records_in list' r.fills ≡ (told_in longs words list f).fills
  pub prices : all_prices_in list' r.fills ≡ (told_in longs words list f).prices
  pub behind : (i : ℕ) → r.fills * width ≤ i → get_or list' i 0 ≡ get_or list i 0
  pub sized : (length longs' ≡ length longs) × (length words' ≡ length words) × (length list' ≡ length list)
  pub inside : r.fills ≤ places list
  pub refused : r.kind ≡ 6 → (longs' ≡ longs) × (words' ≡ words) × (list' ≡ list)

-- the same of the lent arrays, for a contract
abbrev pub Told : LentMut → LentMut → LentMut → Fields → Outcome → Type 0
Told longs words list f r = IsTold longs.entry.now words.entry.now list.entry.now f longs.exit.now words.exit.now list.exit.now r
