-- The lines of a tape's messages, and what is made of the lent slices and of the output: by a tape's opening, by one message, by one after another.
use Rattle.std.specs.Prelude.{◌≡◌, List, [], ◌∷◌, ◌++◌, ℕ, zero, suc, ◌+◌, ◌-◌, ◌≤◌, ◌<◌, max, eqb, length, drop, Result, Ok, Err}
use Rattle.rules.specs.Basics.{pick}
use Rattle.rules.specs.Strategy.{opening_refusal}
use Rattle.rules.specs.Messages.{Message}
use Rattle.rules.specs.State.{State}
use Rattle.rules.specs.Refusals.{least_room, refusal}
use Rattle.rules.specs.Step.{step}
use Rattle.rules.specs.Run.{opening, Sent, after}
use Rattle.rules.specs.Tape.{header_of, messages_from, tape_refusal, strategy_of}
use Rattle.rules.specs.Print.{Line, record_lines, refused_lines, lines_of}
use Rattle.types.specs.Refusals.{number_of}
use Rattle.state.specs.View.{state_of}
use Rattle.state.specs.Lent.{Lent, LentMut}
use Rattle.opening.specs.Opens.{opened_by}
use Rattle.tape.specs.View.{offset_after}
use Rattle.text.specs.Text.{lines_text}
use Rattle.text.specs.Outputs.{Puts, PutsFirst}
use Rattle.session.specs.declared.Start.{Start}
use Rattle.session.specs.declared.TurnedBack.{TurnedBack}
use Rattle.session.specs.declared.Cursor.{Cursor}

-- ---- lines

-- the bytes that tapeprint prints for a tape
unfoldable pub tape_text : List ℕ → List ℕ
tape_text t = lines_text (lines_of t)

-- the lines of the message at tape position k: its records and their averages, or the refused line
abbrev pub message_lines : ℕ → State → Message → List Line
message_lines k s m = let a = step s m least_room in record_lines a.fills ++ refused_lines k a.outcome

-- their bytes
abbrev pub message_text : ℕ → State → Message → List ℕ
message_text k s m = lines_text (message_lines k s m)

-- the lines of messages from tape position k on, without the last line
unfoldable pub told_lines : ℕ → State → List Message → List Line
told_lines k s [] = []
told_lines k s (m ∷ ms) = message_lines k s m ++ told_lines (k + 1) (step s m least_room).state ms

-- their bytes
abbrev pub told_text : ℕ → State → List Message → List ℕ
told_text k s ms = lines_text (told_lines k s ms)

-- messages, each with a fill list of 2,000 places
abbrev pub sent : List Message → List Sent
sent [] = []
sent (m ∷ ms) = record { message = m; room = least_room } ∷ sent ms

-- the offset of a tape behind n message records
abbrev pub offset_behind : List ℕ → ℕ → ℕ → ℕ
offset_behind t zero at = at
offset_behind t (suc n) at = offset_behind t n (offset_after t at)

-- the bytes of a message, which has at most 2,000 records and as many averages
abbrev pub most_text : ℕ
most_text = 512000

-- ---- a tape begins

-- n is the number that turns back the tape, or else its opening's; where the tape is not turned back the slices hold the state that its opening begins with, and with a number above 0 they are as they were
pub record OpenedBy (longs words tape longs' words' : List ℕ) (n : ℕ) : Type 0 where
  pub number : n ≡ pick (eqb (tape_refusal tape) 0) (opening_refusal (strategy_of tape)) (tape_refusal tape)
  pub opened : tape_refusal tape ≡ 0 → opened_by n (state_of longs' words') ≡ opening (strategy_of tape)
  pub refused : 0 < n → (longs' ≡ longs) × (words' ≡ words)

-- the number of a beginning, 0 for none
abbrev pub number_begun : Result Start TurnedBack → ℕ
number_begun (Ok b) = 0
number_begun (Err t) = number_of t.row

-- the start that it tells, also of a tape that is turned back
abbrev pub start_begun : Result Start TurnedBack → Start
start_begun (Ok b) = b
start_begun (Err t) = t.start

-- the number, the slices, and the message count and where the first one starts
pub record Begins (longs words tape longs' words' : List ℕ) (r : Result Start TurnedBack) : Type 0 where
  pub by : OpenedBy longs words tape longs' words' (number_begun r)
  pub count : (start_begun r).count ≡ (header_of tape).message_count
  pub at : (start_begun r).at ≡ (header_of tape).message_offset

-- ---- a message

-- the message at tape position k is told: its bytes, the state after it; under a refusal every number is as it was
pub record IsTold (k : ℕ) (m : Message) (longs words list lent : List ℕ) (at : ℕ) (longs' words' list' out : List ℕ) (r : ℕ) : Type 0 where
  pub puts : Puts (message_text k (state_of longs words) m) lent at r out
  pub few : length (message_text k (state_of longs words) m) ≤ most_text
  pub state : state_of longs' words' ≡ (step (state_of longs words) m least_room).state
  pub refused : 0 < refusal (state_of longs words) m least_room → (longs' ≡ longs) × (words' ≡ words) × (list' ≡ list)

-- ---- message after message

-- the messages of n between two cursors of a tape are told: their bytes, the state after them, and the offset behind them; none of them but the last passes an offset of the output, and where the output has room for one message more, no byte is left out
pub record AreTold (tape : List ℕ) (n : ℕ) (p : Cursor) (most : ℕ) (s : State) (lent : List ℕ) (s' : State) (r : Cursor) (out : List ℕ) : Type 0 where
  pub puts : PutsFirst (λ k. told_text (p.position + 1) s (messages_from k (drop p.next tape))) most most_text lent p.at (r.position - p.position) r.at out
  pub state : s' ≡ after s (sent (messages_from (r.position - p.position) (drop p.next tape)))
  pub next : r.next ≡ offset_behind tape (r.position - p.position) p.next
  pub inside : (p.position ≤ r.position) × (r.position ≤ max p.position n)

-- as many are told as it takes to pass that offset, or all
pub record Runs (tape : List ℕ) (n : ℕ) (p : Cursor) (most : ℕ) (s : State) (lent : List ℕ) (s' : State) (r : Cursor) (out : List ℕ) : Type 0 where
  pub told : AreTold tape n p most s lent s' r out
  pub end : r.position < n → most < r.at

-- ---- the same said of the lent slices, for contracts

abbrev pub IsOpenedBy : LentMut → LentMut → Lent → ℕ → Type 0
IsOpenedBy longs words tape n = OpenedBy longs.entry.now words.entry.now tape.entry.now longs.exit.now words.exit.now n

abbrev pub IsBegun : LentMut → LentMut → Lent → Result Start TurnedBack → Type 0
IsBegun longs words tape r = Begins longs.entry.now words.entry.now tape.entry.now longs.exit.now words.exit.now r

abbrev pub Tells : LentMut → LentMut → LentMut → LentMut → ℕ → ℕ → Message → ℕ → Type 0
Tells longs words list out at k m r =
    IsTold k m longs.entry.now words.entry.now list.entry.now out.entry.now at longs.exit.now words.exit.now list.exit.now out.exit.now r

abbrev pub IsRun : LentMut → LentMut → LentMut → Lent → ℕ → Cursor → ℕ → Cursor → Type 0
IsRun longs words out tape n p most r =
    Runs tape.entry.now n p most (state_of longs.entry.now words.entry.now) out.entry.now (state_of longs.exit.now words.exit.now) r out.exit.now
