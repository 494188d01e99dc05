-- What the engine tells is what the rules answer.
use mathlib.Core.Path.{◌≡◌, refl, ap, ap₂, sym, ◌∙◌, subst}
use mathlib.Core.Bool.{Bool, true, false}
use mathlib.Core.List.{List, [], ◌∷◌, ◌++◌, map}
use Prim.Native.Nat.{ℕ, zero, suc, ◌+◌, ◌-◌, ◌*◌, ◌/◌, ◌≤◌, min}
use native.Mathlib.Decide.{ℕ_discrete}
use native.Mathlib.Omega.{arith}
use borrow.Author.Tests.{ne_eqb}
use lib.Dec.{eqb}
use lib.ListN.{length, get_or, take, drop}
use Rattle.rules.specs.Basics.{pick, All}
use Rattle.rules.specs.Turn as U
use Rattle.rules.specs.Outcome as O
use Rattle.rules.specs.Messages.{Body, local, national, order, response, modify, cancel, clock, reduce, Message}
use Rattle.rules.specs.State.{State, taken}
use Rattle.rules.specs.Refusals.{least_room, refusal}
use Rattle.rules.specs.Step.{Act, goes_on, begins, joining, ends, take_in, follow, answered, plain, records_of, Answer, watched, acted, accepted, turned_back, step}
use Rattle.rules.specs.Strategy as S
use Rattle.rules.specs.Run.{Opened, started, start_of, opening, Sent, answer_to, answers, after}
use Rattle.rules.specs.Tape.{Tape, reads, tape_of}
use Rattle.rules.specs.Print.{Line, title_line, record_lines, refused_lines, closing, lines_from, opened_lines, read_lines, lines_of}
use Rattle.rules.specs.Demand.{Good, Demand3OfRules}
use Rattle.rules.specs.Average.{average_for, Says, GoodAverages, AveragesAreExactOfRules}
use Rattle.rules.specs.Bound.{RecordsFit}
use Rattle.rules.specs.Arrival.{no_arrivals, AllStand, RecordsByArrivalOfRules, RecordsAreFixed}
use Rattle.rules.proofs.RunLaws.{opened, demand_3_of_rules}
use Rattle.rules.specs.LegsKept.{LegsKeptOfRules}
use Rattle.rules.specs.LegPrices.{LegPrices}
use Rattle.rules.specs.LeastPrices.{LegPricesAreLeastOfRules}
use Rattle.rules.proofs.BoundLaws.{records_fit}
use Rattle.rules.proofs.KeptLaws.{legs_kept_of_rules}
use Rattle.rules.proofs.LeastLaws.{leg_prices_are_least_of_rules}
use Rattle.rules.proofs.AverageLaws.{averages_are_exact_of_rules}
use Rattle.rules.proofs.ArrivalLaws.{records_by_arrival_of_rules, records_are_fixed}
use Rattle.types.specs.declared.Opening.{Opening}
use Rattle.types.specs.declared.Fill.{Fill}
use Rattle.types.specs.View.{upto, opening_of, rank_of, contra_of, fill_of, leg_prices_of, prices_of, held_legs, held_prices}
use Rattle.types.proofs.TableLaws.{from-length}
use Rattle.state.specs.Layout.{is_sized}
use Rattle.state.specs.View.{open_count, entry_at, state_of}
use Rattle.records.specs.Records.{width, prices_in}
use Rattle.records.proofs.RecordLaws.{held_back}
use Rattle.opening.specs.Opens.{opened_by, Opens}
use Rattle.engine.specs.Steps.{records_in, all_prices_in, places_in}
use Rattle.engine.proofs.StepLaws.{passes}
use Rattle.average.specs.Sums.{first_records}
use Rattle.text.proofs.FillLaws.{records_known}
use Rattle.fills.specs.Fills.{stored_rank, stored_contra, stored_fill, stored_fills}
use Rattle.text.specs.Text.{lines_text}
use Rattle.session.specs.Lines.{sent, tape_text}
use Rattle.demand.specs.Engine.{Taken, by_step, by_apply, longs_after, words_after, list_after, sent_of, fill_count, outcome_by, told_by, prices_by, Run, over, then, sents, told, told_prices, said_by, end_of, Copy, Demand3, RecordsByArrival, Asked, AllAsked, AveragesAreExact, LegsKept, LegPricesAreLeast, lines_by, text_by, Alike, ListIsFixed}

-- ---- the fill count of an outcome is the number of its records

plain-count : (b : Body) (s : State) (n : ℕ) → fill_count (plain b s n) ≡ n
plain-count (local q) s n = refl
plain-count (national q) s n = refl
plain-count (order t w) s n = refl
plain-count (response t) s n = refl
plain-count (modify c) s n = refl
plain-count (cancel i p) s n = refl
plain-count clock s n = refl
plain-count (reduce i p u) s n = refl

answered-count : (b : Body) (s : State) (a : Act) → fill_count (answered b a (follow s a)).outcome ≡ length (answered b a (follow s a)).fills
unfolding records_of
answered-count b s goes_on = plain-count b (follow s goes_on).state (length (records_of (follow s goes_on).turns))
answered-count b s begins = refl
answered-count b s joining = refl
answered-count b s (ends c) = refl

step_count : (s : State) (m : Message) (room : ℕ) → fill_count (step s m room).outcome ≡ length (step s m room).fills
unfolding step accepted acted
step_count s m room = by (eqb (refusal s m room) 0)
  where
    by : (x : Bool) → fill_count (pick x (accepted s m) (turned_back s (refusal s m room))).outcome ≡ length (pick x (accepted s m) (turned_back s (refusal s m room))).fills
    by true = let i = take_in (taken s m.time) m.body in answered-count m.body (watched m.body i.state) i.act
    by false = refl

-- a refused message has none
no_records : (s : State) (m : Message) (room : ℕ) → (refusal s m room ≡ 0 → ⊥) → length (step s m room).fills ≡ 0
unfolding step
no_records s m room n = rw (ne_eqb (refusal s m room) 0 n)

-- ---- the records of a list of structs

shown_rank : (k : U.Rank) → rank_of (stored_rank k) ≡ k
shown_rank U.L = refl
shown_rank U.C = refl
shown_rank U.N = refl
shown_rank U.T = refl
shown_rank U.R = refl

shown_contra : (c : U.Contra) → contra_of (stored_contra c) ≡ c
shown_contra U.legs = refl
shown_contra (U.entry i) = refl

shown-fill : (f : U.Fill) (p : LegPrices) → fill_of (stored_fill f p) ≡ f
shown-fill f p =
    ap₂ (λ (k : U.Rank) (c : U.Contra). record { number = f.number; order = f.order; rank = k; contra = c; price = f.price; units = f.units }) (shown_rank f.rank) (shown_contra f.contra)

-- leg prices that are read back as they were held
abbrev Held : LegPrices → Type 0
Held p = leg_prices_of (held_legs p) (held_prices p) ≡ p

all_held : (xs : List ℕ) (k n : ℕ) → All Held (upto (prices_in xs) k n)
unfolding upto
all_held xs k zero = tt
all_held xs k (suc n) = (
  held_back (get_or xs (k * width + 6) 0) (get_or xs (k * width + 7) 0) (get_or xs (k * width + 8) 0) (get_or xs (k * width + 9) 0) (get_or xs (k * width + 10) 0),
  all_held xs (k + 1) n,
)

-- as many records as there are, from the start of a list that they were written into, and the leg prices of each
first_records_lem : (fs : List U.Fill) (ps : List LegPrices) (ys : List Fill) → length ps ≡ length fs → map fill_of (take (length fs) (stored_fills fs ps ++ ys)) ≡ fs
first_records_lem [] ps ys e = refl
first_records_lem (f ∷ fs) [] ys e = absurd (omega (arith, e))
first_records_lem (f ∷ fs) (p ∷ ps) ys e = ap₂ (λ (g : U.Fill) (gs : List U.Fill). g ∷ gs) (shown-fill f p) (first_records_lem fs ps ys (omega (arith, e)))

first-prices : (fs : List U.Fill) (ps : List LegPrices) (ys : List Fill) → length ps ≡ length fs → All Held ps → map prices_of (take (length fs) (stored_fills fs ps ++ ys)) ≡ ps
first-prices [] [] ys e h = refl
first-prices [] (p ∷ ps) ys e h = absurd (omega (arith, e))
first-prices (f ∷ fs) [] ys e h = absurd (omega (arith, e))
first-prices (f ∷ fs) (p ∷ ps) ys e h = ap₂ (λ (g : LegPrices) (gs : List LegPrices). g ∷ gs) h.0 (first-prices fs ps ys (omega (arith, e)) h.1)

-- a list has as many leg prices as records
as_many : (list : List ℕ) (fs : List U.Fill) (ps : List LegPrices) → all_prices_in list (length fs) ≡ ps → length ps ≡ length fs
as_many list fs ps e = let n : length (all_prices_in list (length fs)) ≡ length fs - 0 = from-length (prices_in list) 0 (length fs) in omega (arith, n, ap length e)

-- ---- one message

module _ (longs words : List ℕ) where
  said_here : (a : Taken longs words) → outcome_by a ≡ (answer_to (state_of longs words) (sent_of a)).outcome
  said_here (by_step a) = a.kept.outcome
  said_here (by_apply a) = a.kept.outcome

  count-here : (a : Taken longs words) → fill_count (outcome_by a) ≡ length (answer_to (state_of longs words) (sent_of a)).fills
  count-here a = ap fill_count (said_here a) ∙ step_count (state_of longs words) (sent_of a).message (sent_of a).room

  -- the records in the list of numbers
  listed_here : (a : Taken longs words) → records_in (list_after a) (fill_count (outcome_by a)) ≡ (answer_to (state_of longs words) (sent_of a)).fills
  listed_here (by_step a) = ap (records_in a.list') (count-here (by_step a) ∙ sym a.kept.count) ∙ a.kept.records
  listed_here (by_apply a) = ap (records_in a.list') (count-here (by_apply a)) ∙ a.kept.records

  told_here : (a : Taken longs words) → told_by a ≡ (answer_to (state_of longs words) (sent_of a)).fills
  told_here (by_step a) = listed_here (by_step a)
  told_here (by_apply a) =
      let fs : List U.Fill = (answer_to (state_of longs words) (sent_of (by_apply a))).fills in
      let ps : List LegPrices = (answer_to (state_of longs words) (sent_of (by_apply a))).prices in
      ap₂ (λ (n : ℕ) (l : List Fill). map fill_of (take n l)) (count-here (by_apply a)) a.kept.list
      ∙ first_records_lem fs ps (drop (length (stored_fills fs ps)) a.fills) (as_many a.list' fs ps a.kept.prices)

  priced-here : (a : Taken longs words) → prices_by a ≡ (answer_to (state_of longs words) (sent_of a)).prices
  priced-here (by_step a) = ap (all_prices_in a.list') (count-here (by_step a) ∙ sym a.kept.count) ∙ a.kept.prices
  priced-here (by_apply a) =
      let fs : List U.Fill = (answer_to (state_of longs words) (sent_of (by_apply a))).fills in
      let ps : List LegPrices = (answer_to (state_of longs words) (sent_of (by_apply a))).prices in
      ap₂ (λ (n : ℕ) (l : List Fill). map prices_of (take n l)) (count-here (by_apply a)) a.kept.list
      ∙ first-prices fs ps (drop (length (stored_fills fs ps)) a.fills) (as_many a.list' fs ps a.kept.prices) (subst (All Held) a.kept.prices (all_held a.list' 0 (length fs - 0)))

  state-after : (a : Taken longs words) → state_of (longs_after a) (words_after a) ≡ (answer_to (state_of longs words) (sent_of a)).state
  state-after (by_step a) = a.kept.state
  state-after (by_apply a) = a.kept.state

  -- ---- an average

  few-records : (a : Taken longs words) → fill_count (outcome_by a) ≤ least_room
  unfolding RecordsFit
  few-records a =
      let few = records_fit (state_of longs words) (sent_of a).message (sent_of a).room (rw (from-length (entry_at longs words) 0 (open_count words)) (omega arith)) in
      omega (arith, count-here a, few.0)

  places-inside : (list : List ℕ) (room : ℕ) → places_in longs words list room * width ≤ length list
  places-inside list room = go (is_sized longs words)
    where
      go : (b : Bool) → pick b (min room (length list / width)) 0 * width ≤ length list
      go true = omega arith
      go false = omega arith

  room-inside : (a : Taken longs words) → (sent_of a).room * width ≤ length (list_after a)
  room-inside (by_step a) = omega (arith, places-inside a.list a.room, a.kept.sized.2)
  room-inside (by_apply a) = omega (arith, places-inside a.list (length a.fills), a.kept.sized.2)

  -- a message without 2,000 places has no records
  records-inside : (a : Taken longs words) → fill_count (outcome_by a) * width ≤ length (list_after a)
  records-inside a =
      let few = few-records a in
      let count = count-here a in
      let room = room-inside a in
      elim (ℕ_discrete (refusal (state_of longs words) (sent_of a).message (sent_of a).room) 0) [
        | yes e ↦ omega (arith, few, room, (passes (state_of longs words) (sent_of a).message (sent_of a).room e).0)
        | no n ↦ omega (arith, count, no_records (state_of longs words) (sent_of a).message (sent_of a).room n)
      ]

  asked_here : (a : Taken longs words) → GoodAverages (told_by a) → Asked a
  asked_here a g i r h =
      let e : first_records (list_after a) (fill_count (outcome_by a)) ≡ told_by a =
      records_known (list_after a) (fill_count (outcome_by a)) (few-records a) (records-inside a) ∙ listed_here a ∙ sym (told_here a) in
      subst (Says i (told_by a)) (sym (h ∙ ap (average_for i) e)) (g.asked i)

-- ---- a list of messages

told_is : {longs words : List ℕ} (run : Run longs words) → told run ≡ map (λ a. a.fills) (answers (state_of longs words) (sents run))
unfolding answers
told_is (over longs words) = refl
told_is (then longs words a run) =
    ap₂ (λ (f : List U.Fill) (fs : List (List U.Fill)). f ∷ fs) (told_here longs words a)
    (told_is run ∙ ap (λ (s : State). map (λ y. y.fills) (answers s (sents run))) (state-after longs words a))

priced_is : {longs words : List ℕ} (run : Run longs words) → told_prices run ≡ map (λ a. a.prices) (answers (state_of longs words) (sents run))
unfolding answers
priced_is (over longs words) = refl
priced_is (then longs words a run) =
    ap₂ (λ (p : List LegPrices) (ps : List (List LegPrices)). p ∷ ps) (priced-here longs words a)
    (priced_is run ∙ ap (λ (s : State). map (λ y. y.prices) (answers s (sents run))) (state-after longs words a))

said_is : {longs words : List ℕ} (run : Run longs words) → said_by run ≡ map (λ a. a.outcome) (answers (state_of longs words) (sents run))
unfolding answers
said_is (over longs words) = refl
said_is (then longs words a run) =
    ap₂ (λ (f : O.Outcome) (fs : List O.Outcome). f ∷ fs) (said_here longs words a)
    (said_is run ∙ ap (λ (s : State). map (λ y. y.outcome) (answers s (sents run))) (state-after longs words a))

end_is : {longs words : List ℕ} (run : Run longs words) → end_of run ≡ after (state_of longs words) (sents run)
unfolding after
end_is (over longs words) = refl
end_is (then longs words a run) = end_is run ∙ ap (λ (s : State). after s (sents run)) (state-after longs words a)

-- the lines of the rules' answers
abbrev lines_for : ℕ → State → List Sent → List Line
lines_for k s [] = closing s ∷ []
lines_for k s (m ∷ ms) = record_lines (answer_to s m).fills ++ (refused_lines k (answer_to s m).outcome ++ lines_for (k + 1) (answer_to s m).state ms)

lines_are : {longs words : List ℕ} (k : ℕ) (run : Run longs words) → lines_by k run ≡ lines_for k (state_of longs words) (sents run)
lines_are k (over longs words) = refl
lines_are k (then longs words a run) =
    ap₂ (λ (x y : List Line). x ++ y) (ap record_lines (told_here longs words a))
    (ap₂ (λ (x y : List Line). x ++ y) (ap (refused_lines k) (said_here longs words a))
    (lines_are (k + 1) run ∙ ap (λ (s : State). lines_for (k + 1) s (sents run)) (state-after longs words a)))

-- for messages with 2,000 places each they are those of a tape
lines_from_lem : (k : ℕ) (s : State) (ms : List Message) → lines_for k s (sent ms) ≡ lines_from k s ms
unfolding lines_from
lines_from_lem k s [] = refl
lines_from_lem k s (m ∷ ms) =
    let a : Answer = answer_to s (record { message = m; room = least_room }) in
    ap (λ (l : List Line). record_lines a.fills ++ (refused_lines k a.outcome ++ l)) (lines_from_lem (k + 1) a.state ms)

-- the state of an accepted opening is the rules'
opening_is : (longs words : List ℕ) (o : S.Strategy) (r : ℕ) (longs' words' : List ℕ) → Opens longs words o r longs' words' → r ≡ 0 → opening o ≡ started (state_of longs' words')
opening_is longs words o r longs' words' h e = go (is_sized longs words) refl
  where
    go : (b : Bool) → is_sized longs words ≡ b → opening o ≡ started (state_of longs' words')
    go true q = sym (h.answer q) ∙ ap (λ (n : ℕ). opened_by n (state_of longs' words')) e
    go false q = let z : r ≡ 10 = h.number ∙ ap (λ (b : Bool). pick b (S.opening_refusal o) 10) q in absurd (omega arith)

-- ---- the claims

module _ (o : Opening) (c : Copy o) where
  opened-is : opening (opening_of o) ≡ started (state_of c.longs' c.words')
  opened-is = opening_is c.longs c.words (opening_of o) c.number c.longs' c.words' c.opened c.accepted

  start_is : start_of (opening_of o) ≡ state_of c.longs' c.words'
  start_is = (opened (opening_of o) (state_of c.longs' c.words') opened-is).1

  started-is : opening (opening_of o) ≡ started (start_of (opening_of o))
  started-is = opened-is ∙ ap started (sym start_is)

  -- what the rules' answers are after every opening, the engine's are
  of-rules : (P : State → List Sent → List (List U.Fill) → Type 0)
      → ((s : State) → opening (opening_of o) ≡ started s → (ms : List Sent) → P s ms (map (λ a. a.fills) (answers s ms)))
      → P (start_of (opening_of o)) (sents c.run) (told c.run)
  of-rules P f = rw (start_is, told_is c.run) (f (state_of c.longs' c.words') opened-is (sents c.run))

  -- the list, the outcomes, the state and the lines are the rules'
  told-from : told c.run ≡ map (λ a. a.fills) (answers (start_of (opening_of o)) (sents c.run))
  told-from = told_is c.run ∙ ap (λ (s : State). map (λ a. a.fills) (answers s (sents c.run))) (sym start_is)

  priced-from : told_prices c.run ≡ map (λ a. a.prices) (answers (start_of (opening_of o)) (sents c.run))
  priced-from = priced_is c.run ∙ ap (λ (s : State). map (λ a. a.prices) (answers s (sents c.run))) (sym start_is)

  said-from : said_by c.run ≡ map (λ a. a.outcome) (answers (start_of (opening_of o)) (sents c.run))
  said-from = said_is c.run ∙ ap (λ (s : State). map (λ a. a.outcome) (answers s (sents c.run))) (sym start_is)

  end-from : end_of c.run ≡ after (start_of (opening_of o)) (sents c.run)
  end-from = end_is c.run ∙ ap (λ (s : State). after s (sents c.run)) (sym start_is)

  text-from : text_by c.run ≡ lines_text (title_line ∷ lines_for 1 (start_of (opening_of o)) (sents c.run))
  text-from = ap (λ (l : List Line). lines_text (title_line ∷ l)) (lines_are 1 c.run ∙ ap (λ (s : State). lines_for 1 s (sents c.run)) (sym start_is))

pub demand_3 : Demand3
unfolding Demand3 Demand3OfRules
demand_3 o c = of-rules o c Good (demand_3_of_rules (opening_of o))

all_asked : {longs words : List ℕ} (run : Run longs words) → All GoodAverages (told run) → AllAsked run
all_asked (over longs words) g = tt
all_asked (then longs words a run) g = (asked_here longs words a g.0, all_asked run g.1)

pub averages_are_exact : AveragesAreExact
unfolding AveragesAreExact AveragesAreExactOfRules
averages_are_exact o c =
    let g : All GoodAverages (told c.run) = of-rules o c (λ s ms rss. All GoodAverages rss) (averages_are_exact_of_rules.1 (opening_of o)) in
    (g, all_asked c.run g)

pub records_by_arrival : RecordsByArrival
unfolding RecordsByArrival RecordsByArrivalOfRules
records_by_arrival o c = of-rules o c (AllStand no_arrivals) (records_by_arrival_of_rules (opening_of o))

pub legs_kept : LegsKept
unfolding LegsKept LegsKeptOfRules
legs_kept o c p e = (legs_kept_of_rules (opening_of o) (start_of (opening_of o)) (started-is o c) (sents c.run) p).0 (ap (λ (s : State). s.auction) (sym (end-from o c)) ∙ e)

pub leg_prices_are_least : LegPricesAreLeast
unfolding LegPricesAreLeast LegPricesAreLeastOfRules
leg_prices_are_least o c = rw (told-from o c, priced-from o c) (leg_prices_are_least_of_rules (opening_of o) (start_of (opening_of o)) (started-is o c) (sents c.run))

only-told : (o : Opening) (c : Copy o) (rss : List (List U.Fill)) → Good (start_of (opening_of o)) (sents c.run) rss → AllStand no_arrivals (start_of (opening_of o)) (sents c.run) rss → rss ≡ told c.run
unfolding RecordsAreFixed
only-told o c rss g b = records_are_fixed (opening_of o) (start_of (opening_of o)) (started-is o c) (sents c.run) rss g b ∙ sym (told-from o c)

alike : (o : Opening) (c d : Copy o) → sents c.run ≡ sents d.run → Alike o c d
alike o c d h =
    let s : State = start_of (opening_of o) in
    record {
      records = told-from o c ∙ ap (λ (ms : List Sent). map (λ a. a.fills) (answers s ms)) h ∙ sym (told-from o d);
      prices = priced-from o c ∙ ap (λ (ms : List Sent). map (λ a. a.prices) (answers s ms)) h ∙ sym (priced-from o d);
      outcomes = said-from o c ∙ ap (λ (ms : List Sent). map (λ a. a.outcome) (answers s ms)) h ∙ sym (said-from o d);
      state = end-from o c ∙ ap (after s) h ∙ sym (end-from o d);
      text = text-from o c ∙ ap (λ (ms : List Sent). lines_text (title_line ∷ lines_for 1 s ms)) h ∙ sym (text-from o d);
    }

as_printed : (o : Opening) (c : Copy o) (t : List ℕ) (ms : List Message) → tape_of t ≡ reads (opening_of o) ms → sents c.run ≡ sent ms → text_by c.run ≡ tape_text t
unfolding tape_text lines_of
as_printed o c t ms h k =
    let s : State = start_of (opening_of o) in
    text-from o c ∙ ap (λ (ns : List Sent). lines_text (title_line ∷ lines_for 1 s ns)) k ∙ ap (λ (l : List Line). lines_text (title_line ∷ l)) (lines_from_lem 1 s ms)
    ∙ sym (ap (λ (x : Tape). lines_text (read_lines x)) h ∙ ap (λ (x : Opened). lines_text (opened_lines x ms)) (started-is o c))

pub list_is_fixed : ListIsFixed
unfolding ListIsFixed
list_is_fixed o c = record { only = only-told o c; alike = alike o c; printed = as_printed o c }
