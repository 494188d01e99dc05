-- Demand 3, M-101 to M-103 and M-106 about the engine: claims about an opening and a list of messages, each taken in place by `step` or by `apply`.
use Rattle.std.specs.Prelude.{◌≡◌, Option, List, [], ◌∷◌, ◌++◌, map, ℕ, ◌+◌, length, take}
use Rattle.rules.specs.Basics.{All}
use Rattle.rules.specs.Messages as M
use Rattle.rules.specs.Outcome as O
use Rattle.rules.specs.Turn as U
use Rattle.rules.specs.State.{Pending, pending, State}
use Rattle.rules.specs.Run.{Sent, start_of}
use Rattle.rules.specs.Tape.{reads, tape_of}
use Rattle.rules.specs.Print.{Line, title_line, record_lines, refused_lines, closing}
use Rattle.rules.specs.Demand.{Good}
use Rattle.rules.specs.Arrival.{no_arrivals, AllStand}
use Rattle.rules.specs.Average.{Says, GoodAverages}
use Rattle.rules.specs.LegsKept.{readings, KeptSince}
use Rattle.rules.specs.LegPrices.{LegPrices}
use Rattle.rules.specs.LeastPrices.{AllPriced}
use Rattle.types.specs.declared.Opening.{Opening}
use Rattle.types.specs.declared.Message.{Message}
use Rattle.types.specs.declared.Fill.{Fill}
use Rattle.types.specs.declared.Outcome.{Outcome}
use Rattle.types.specs.View.{opening_of, message_of, fill_of, prices_of, outcome_of}
use Rattle.state.specs.View.{state_of}
use Rattle.opening.specs.Opens.{Opens}
use Rattle.engine.specs.declared.Answer.{Answer}
use Rattle.engine.specs.Steps.{records_in, all_prices_in, places_in, IsStep}
use Rattle.fills.specs.Fills.{IsApplied}
use Rattle.average.specs.declared.Average.{Average}
use Rattle.average.specs.Parts.{average_of, IsAverage}
use Rattle.text.specs.Text.{lines_text}
use Rattle.session.specs.Lines.{sent, tape_text}

-- a message taken by `step`: the message, the list as it was lent and the room that was granted, the answer and the three lists as they came back, and all that the contract of `step` says of them
pub record Stepped (longs words : List ℕ) : Type 0 where
  pub message : Message
  pub list : List ℕ
  pub room : ℕ
  pub answer : Answer
  pub longs' : List ℕ
  pub words' : List ℕ
  pub list' : List ℕ
  pub kept : IsStep longs words list (message_of message) room longs' words' list' answer

-- the same by `apply`, with the list of structs
pub record Applied (longs words : List ℕ) : Type 0 where
  pub message : Message
  pub list : List ℕ
  pub fills : List Fill
  pub outcome : Outcome
  pub longs' : List ℕ
  pub words' : List ℕ
  pub list' : List ℕ
  pub fills' : List Fill
  pub kept : IsApplied longs words list fills (message_of message) outcome longs' words' list' fills'

-- either of them
pub data Taken (longs words : List ℕ) : Type 0 where
  by_step : Stepped longs words → Taken longs words
  by_apply : Applied longs words → Taken longs words

-- the state's slices as it left them
abbrev pub longs_after : {longs words : List ℕ} → Taken longs words → List ℕ
longs_after (by_step a) = a.longs'
longs_after (by_apply a) = a.longs'

abbrev pub words_after : {longs words : List ℕ} → Taken longs words → List ℕ
words_after (by_step a) = a.words'
words_after (by_apply a) = a.words'

-- and the list of numbers
abbrev pub list_after : {longs words : List ℕ} → Taken longs words → List ℕ
list_after (by_step a) = a.list'
list_after (by_apply a) = a.list'

-- what the replay is fed: the message with the places that it has for its records
abbrev pub sent_of : {longs words : List ℕ} → Taken longs words → Sent
sent_of {longs} {words} (by_step a) = record { message = message_of a.message; room = places_in longs words a.list a.room }
sent_of {longs} {words} (by_apply a) = record { message = message_of a.message; room = places_in longs words a.list (length a.fills) }

-- the fill count of an outcome
abbrev pub fill_count : O.Outcome → ℕ
fill_count (O.Noted n) = n
fill_count (O.Placed u n) = n
fill_count (O.Begun t) = 0
fill_count (O.Joined u) = 0
fill_count (O.Ended c n) = n
fill_count (O.Refused n) = 0

-- the outcome of an answer
abbrev pub outcome_by : {longs words : List ℕ} → Taken longs words → O.Outcome
outcome_by (by_step a) = outcome_of a.answer.outcome
outcome_by (by_apply a) = outcome_of a.outcome

-- its records: as many as its outcome counts, from the start of the list that came back
abbrev pub told_by : {longs words : List ℕ} → Taken longs words → List U.Fill
told_by (by_step a) = records_in a.list' (fill_count (outcome_of a.answer.outcome))
told_by (by_apply a) = map fill_of (take (fill_count (outcome_of a.outcome)) a.fills')

-- and the leg prices of each
abbrev pub prices_by : {longs words : List ℕ} → Taken longs words → List LegPrices
prices_by (by_step a) = all_prices_in a.list' (fill_count (outcome_of a.answer.outcome))
prices_by (by_apply a) = map prices_of (take (fill_count (outcome_of a.outcome)) a.fills')

-- messages taken one after another, each with the slices that the one before it left; "nobody else writes the state meanwhile"
pub data Run : List ℕ → List ℕ → Type 0 where
  over : (longs words : List ℕ) → Run longs words
  then : (longs words : List ℕ) (a : Taken longs words) → Run (longs_after a) (words_after a) → Run longs words

-- what was sent, the records that were told with their leg prices, and the outcomes, message by message
abbrev pub sents : {longs words : List ℕ} → Run longs words → List Sent
sents (over longs words) = []
sents (then longs words a run) = sent_of a ∷ sents run

abbrev pub told : {longs words : List ℕ} → Run longs words → List (List U.Fill)
told (over longs words) = []
told (then longs words a run) = told_by a ∷ told run

abbrev pub told_prices : {longs words : List ℕ} → Run longs words → List (List LegPrices)
told_prices (over longs words) = []
told_prices (then longs words a run) = prices_by a ∷ told_prices run

abbrev pub said_by : {longs words : List ℕ} → Run longs words → List O.Outcome
said_by (over longs words) = []
said_by (then longs words a run) = outcome_by a ∷ said_by run

-- the state that they leave
abbrev pub end_of : {longs words : List ℕ} → Run longs words → State
end_of (over longs words) = state_of longs words
end_of (then longs words a run) = end_of run

-- ---- the claims

-- a copy in use: an accepted opening, whatever the slices held before it, and the messages taken since, refused ones included, each with lists of any length
pub record Copy (o : Opening) : Type 0 where
  pub longs : List ℕ
  pub words : List ℕ
  pub longs' : List ℕ
  pub words' : List ℕ
  pub number : ℕ
  pub opened : Opens longs words (opening_of o) number longs' words'
  pub accepted : number ≡ 0
  pub run : Run longs' words'

-- demand 3: the engine's records, given to the turns of the replay from the opening, are good at every turn
unfoldable pub Demand3 : Type 0
Demand3 = (o : Opening) (c : Copy o) → Good (start_of (opening_of o)) (sents c.run) (told c.run)

-- M-101: at every turn they stand by price, rank and arrival number
unfoldable pub RecordsByArrival : Type 0
RecordsByArrival = (o : Opening) (c : Copy o) → AllStand no_arrivals (start_of (opening_of o)) (sents c.run) (told c.run)

-- what any order is told by `average_of`, asked with the list of numbers as it came back and the fills that the outcome counts
abbrev pub Asked : {longs words : List ℕ} → Taken longs words → Type 0
Asked a = (i : ℕ) (r : Option Average) → IsAverage (list_after a) (fill_count (outcome_by a)) i r → Says i (told_by a) (average_of r)

abbrev pub AllAsked : {longs words : List ℕ} → Run longs words → Type 0
AllAsked (over longs words) = Unit {0}
AllAsked (then longs words a run) = Asked a × AllAsked run

-- M-102: in every answer the averages of the engine's records are exact, and so is the one that an order is told
unfoldable pub AveragesAreExact : Type 0
AveragesAreExact = (o : Opening) (c : Copy o) → All GoodAverages (told c.run) × AllAsked c.run

-- M-103: what a copy keeps of the legs while an auction is pending is the starting price with the least units that it has shown, by the states that the messages lead to
unfoldable pub LegsKept : Type 0
LegsKept = (o : Opening) (c : Copy o) (p : Pending) → (end_of c.run).auction ≡ pending p → KeptSince p.buy (readings (start_of (opening_of o)) (sents c.run) []) p.start

-- M-106: at every turn the leg prices of the engine's records are the least such prices, or none exactly under the three conditions, and those of the legs are the prices taken
unfoldable pub LegPricesAreLeast : Type 0
LegPricesAreLeast = (o : Opening) (c : Copy o) → AllPriced (start_of (opening_of o)) (sents c.run) (told c.run) (told_prices c.run)

-- ---- what tapeprint writes of what a copy answers

-- the lines of each answer, from tape position k on, and what is open at the end
abbrev pub lines_by : {longs words : List ℕ} → ℕ → Run longs words → List Line
lines_by k (over longs words) = closing (state_of longs words) ∷ []
lines_by k (then longs words a run) = record_lines (told_by a) ++ (refused_lines k (outcome_by a) ++ lines_by (k + 1) run)

-- their bytes, behind the title's
abbrev pub text_by : {longs words : List ℕ} → Run longs words → List ℕ
text_by run = lines_text (title_line ∷ lines_by 1 run)

-- two copies tell the same, record by record and byte by byte, and are left with the same state
pub record Alike (o : Opening) (c d : Copy o) : Type 0 where
  pub records : told c.run ≡ told d.run
  pub prices : told_prices c.run ≡ told_prices d.run
  pub outcomes : said_by c.run ≡ said_by d.run
  pub state : end_of c.run ≡ end_of d.run
  pub text : text_by c.run ≡ text_by d.run

-- what fixes the list of a copy
pub record Fixed (o : Opening) (c : Copy o) : Type 0 where
  -- no other records are as demand 3 asks and stand by arrival
  pub only : (rss : List (List U.Fill)) → Good (start_of (opening_of o)) (sents c.run) rss → AllStand no_arrivals (start_of (opening_of o)) (sents c.run) rss → rss ≡ told c.run
  -- another engine that keeps the contracts of `open`, `step` and `apply`, opened alike and sent the same messages with the same places, tells the same
  pub alike : (d : Copy o) → sents c.run ≡ sents d.run → Alike o c d
  -- for a tape that is read as this opening and these messages, with 2,000 places each, its bytes are those that tapeprint writes
  pub printed : (t : List ℕ) (ms : List M.Message) → tape_of t ≡ reads (opening_of o) ms → sents c.run ≡ sent ms → text_by c.run ≡ tape_text t

-- M-101, "the list is fixed to the last record, and so is what tapeprint writes"
unfoldable pub ListIsFixed : Type 0
ListIsFixed = (o : Opening) (c : Copy o) → Fixed o c
