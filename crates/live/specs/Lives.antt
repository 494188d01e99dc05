-- What live leaves in the lent slices and hands to the system: each record is answered from the state that the one before left, and no byte of an answer is left out.
use Rattle.std.specs.Prelude.{◌≡◌, Bool, true, List, ℕ, ◌+◌, ◌-◌, ◌*◌, ◌≤◌, ◌<◌, length, take, get_or}
use Rattle.rules.specs.Basics.{All}
use Rattle.rules.specs.State.{State}
use Rattle.rules.specs.Tape.{header_bytes, message_bytes}
use Rattle.rules.specs.Run.{refused_opening, started, opening}
use Rattle.state.specs.View.{state_of}
use Rattle.state.specs.Lent.{Lent, LentMut}
use Rattle.tape.specs.View.{strategy_from}
use Rattle.feed.specs.Replies.{after_records, replies_text, records_from, whole_records}
use Rattle.output.specs.Counted.{counted}
use Rattle.live.specs.declared.Burst.{Burst}
use Rattle.live.specs.declared.Round.{Round}
use Rattle.live.specs.declared.Total.{Total}

-- ---- one read

-- r bytes are read behind those that are left of a record
pub record IsRead (input input' : List ℕ) (left r : ℕ) : Type 0 where
  pub first : take left input' ≡ take left input
  pub inside : left + r ≤ length input'
  pub sized : length input' ≡ length input

-- the first k of the whole records in some bytes are answered, and so many bytes handed to the system; all of them where the copy goes on
pub record IsAnswered (bytes : List ℕ) (s s' : State) (k n : ℕ) (going : Bool) : Type 0 where
  pub inside : k ≤ whole_records bytes
  pub all : going ≡ true → k ≡ whole_records bytes
  pub state : s' ≡ after_records s (records_from k bytes)
  pub size : n ≡ counted (length (replies_text s (records_from k bytes)))

-- what was left of a record, n bytes, and behind it what a read gave, is answered; what is left behind the last answered record stands at the front
pub record IsRound (input input' : List ℕ) (n : ℕ) (s s' : State) (r : Round) : Type 0 where
  pub heard : List ℕ
  pub few : (n ≤ length heard) × (length heard ≤ length input)
  pub first : take n heard ≡ take n input
  pub answered : IsAnswered heard s s' r.answered r.bytes r.going
  pub left : r.left ≡ length heard - message_bytes * r.answered
  pub rest : (j : ℕ) → j < r.left → get_or input' j 0 ≡ get_or heard (message_bytes * r.answered + j) 0
  pub sized : length input' ≡ length input

-- ---- read after read

-- from a state to another by some records, each with all its bytes; what was handed to the system is as long as their answers
pub record Lived (s s' : State) (r : Total) : Type 0 where
  pub records : List (List ℕ)
  pub whole : All (λ p. message_bytes ≤ length p) records
  pub many : length records ≡ r.records
  pub state : s' ≡ after_records s records
  pub bytes : r.bytes ≡ counted (length (replies_text s records))

-- an opening and the records behind it
pub record IsRun (longs words longs' words' head : List ℕ) (r : Total) : Type 0 where
  pub opened : (s : State) → opening (strategy_from header_bytes head) ≡ started s → Lived s (state_of longs' words') r
  pub refused : (k : ℕ) → opening (strategy_from header_bytes head) ≡ refused_opening k → (longs' ≡ longs) × (words' ≡ words) × (r.records ≡ 0) × (r.bytes ≡ 0)

-- ---- the same said of the lent slices, for contracts

abbrev pub Reads : LentMut → ℕ → ℕ → Type 0
Reads input left r = IsRead input.entry.now input.exit.now left r

abbrev pub Answers : LentMut → LentMut → Lent → Burst → Type 0
Answers longs words input r = IsAnswered input.entry.now (state_of longs.entry.now words.entry.now) (state_of longs.exit.now words.exit.now) r.answered r.bytes r.going

abbrev pub Rounds : LentMut → LentMut → LentMut → ℕ → Round → Type 0
Rounds longs words input left r = IsRound input.entry.now input.exit.now left (state_of longs.entry.now words.entry.now) (state_of longs.exit.now words.exit.now) r

abbrev pub Lives : LentMut → LentMut → Total → Type 0
Lives longs words r = Lived (state_of longs.entry.now words.entry.now) (state_of longs.exit.now words.exit.now) r

abbrev pub Runs : LentMut → LentMut → List ℕ → Total → Type 0
Runs longs words head r = IsRun longs.entry.now words.entry.now longs.exit.now words.exit.now head r
