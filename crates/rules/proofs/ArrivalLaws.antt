-- M-101: in every answer of every run the records stand by price, rank and arrival number, and no others would do.
use mathlib.Core.Path.{◌≡◌, refl, ap₂, sym, subst}
use mathlib.Core.Bool.{Bool, ◌&&◌, not}
use mathlib.Core.List.{List, [], ◌∷◌, map}
use Prim.Native.Nat.{ℕ, ◌+◌, ◌-◌}
use native.Mathlib.Decide.{ℕ_discrete}
use borrow.Author.Tests.{eq-eqb, ne_eqb}
use lib.Dec.{eqb}
use Rattle.rules.specs.Basics.{pick, All}
use Rattle.rules.specs.Book.{queued, answer, Entry, with_stage, Found, nobody, found, find, without, added}
use Rattle.rules.specs.Messages.{Terms, Change, Body, local, national, order, response, modify, cancel, clock, reduce}
use Rattle.rules.specs.Refusals.{refusal, order_row, response_row}
use Rattle.rules.specs.State.{Clock, Auction, none, pending, State, taken}
use Rattle.rules.specs.Auction.{eligible, ends_by_order, joins}
use Rattle.rules.specs.Step.{Intake, entry_of, modified_entry, modified, order_intake, take_in, follow, Answer, answered, watched, acted, accepted, step}
use Rattle.rules.specs.Strategy.{Strategy}
use Rattle.rules.specs.Turn.{Fill}
use Rattle.rules.specs.Execution.{Reply}
use Rattle.rules.specs.Run.{started, opening, Sent, answer_to, answers}
use Rattle.rules.specs.Demand.{GoodTurn, Told, Good}
use Rattle.rules.specs.Arrival.{Arrivals, no_arrivals, gives, arrivals_after, Standing, AllStand, RecordsByArrivalOfRules, RecordsAreFixed}
use Rattle.rules.specs.Reached.{Inv}
use Rattle.rules.proofs.BasicsLaws.{all_map, all_both, all_append}
use Rattle.rules.proofs.TestLaws.{pick_both}
use Rattle.rules.proofs.RowLaws.{NoneOf, none_of}
use Rattle.rules.proofs.EntryLaws.{all-only, all-reduced, nobody_not, find_id}
use Rattle.rules.proofs.StandingLaws.{Numbered}
use Rattle.rules.proofs.ServeLaws.{Made, made_stands, made_fixed, Kept}
use Rattle.rules.proofs.ClaimLaws.{told, told_fixed}
use Rattle.rules.proofs.IntakeLaws.{not_open, without_none, added-cases, new_order, Admitted, admitted, take_inv, take_clock, watched_inv}
use Rattle.rules.proofs.RunLaws.{back, follow_kept, step_fine, opened, opened_inv}

-- ---- a message gives a number

-- id i has number n, others what they had
abbrev gave : ℕ → ℕ → Arrivals → Arrivals
gave i n a j = pick (eqb i j) n (a j)

-- with the message that takes the number below the next
abbrev given : State → Body → Arrivals → Arrivals
given s b a i = pick (gives b i) (s.clock.next - 1) (a i)

gave-others : (i n : ℕ) (a : Arrivals) (es : List Entry) → All (λ e. i ≡ e.id → ⊥) es → Numbered a es → Numbered (gave i n a) es
gave-others i n a es h k =
    all_map (λ (e : Entry). (i ≡ e.id → ⊥) × (a e.id ≡ e.arrival)) (λ e. gave i n a e.id ≡ e.arrival) (λ e q. rw (ne_eqb i e.id q.0) q.1) es
    (all_both (λ e. i ≡ e.id → ⊥) (λ e. a e.id ≡ e.arrival) es h k)

gave-added : (n : ℕ) (a : Arrivals) (es : List Entry) (f : Entry) → f.arrival ≡ n → All (λ e. f.id ≡ e.id → ⊥) es → Numbered a es → Numbered (gave f.id n a) (added es f)
gave-added n a es f t h k =
    let rest : Numbered (gave f.id n a) es = gave-others f.id n a es h k in
    added-cases (Numbered (gave f.id n a)) es f rest
    (all_append (λ e. gave f.id n a e.id ≡ e.arrival) es (f ∷ []) rest (rw (eq-eqb f.id f.id refl) (sym t), tt))

module _ (s : State) (t : Terms) (w : Bool) (a : Arrivals) (h : All (λ e. t.id ≡ e.id → ⊥) s.book) (k : Numbered a s.book) where
  abbrev After : Intake → Type 0
  After i = Numbered (gave t.id (s.clock.next - 1) a) i.state.book

  held-numbered : Numbered (gave t.id (s.clock.next - 1) a) (added s.book (new_order s t))
  held-numbered = gave-added (s.clock.next - 1) a s.book (new_order s t) refl h k

  queued-numbered : Numbered (gave t.id (s.clock.next - 1) a) (added s.book (with_stage queued (new_order s t)))
  queued-numbered = gave-added (s.clock.next - 1) a s.book (with_stage queued (new_order s t)) refl h k

  order-numbered : (x : Auction) → After (order_intake s x t w)
  unfolding order_intake
  order-numbered none = pick_both After (w && eligible s (new_order s t)) queued-numbered held-numbered
  order-numbered (pending p) = pick_both After (ends_by_order s p (new_order s t)) held-numbered (pick_both After (joins s p w (new_order s t)) queued-numbered held-numbered)

find_none : (i : ℕ) (es : List Entry) → find i es ≡ nobody → All (λ e. i ≡ e.id → ⊥) es
unfolding find
find_none i [] h = tt
find_none i (e ∷ es) h =
    elim (ℕ_discrete e.id i) [
      | yes s ↦ (
          let z : found e ≡ nobody = rw (eq-eqb e.id i s) at h in
          absurd (nobody_not e (sym z))
          )
      | no n ↦ (λ k. n (sym k), find_none i es (rw (ne_eqb e.id i n) at h))
    ]

modify_numbered : (n : ℕ) (c : Change) (a : Arrivals) (es : List Entry) (f : Found) → find c.id es ≡ f → Numbered a es → Numbered (gave c.id n a) (modified c n es f)
modify_numbered n c a es nobody h k = gave-others c.id n a es (find_none c.id es h) k
modify_numbered n c a es (found e) h k =
    let same : e.id ≡ c.id = find_id c.id es e h in
    subst (λ (i : ℕ). Numbered (gave i n a) (added (without c.id es) (modified_entry c n e))) same
    (gave-added n a (without c.id es) (modified_entry c n e) refl
    (subst (λ (i : ℕ). All (λ f. i ≡ f.id → ⊥) (without c.id es)) (sym same) (without_none c.id es))
    (all-only (λ f. a f.id ≡ f.arrival) (λ f. not (eqb f.id c.id)) es k))

take_numbered : (s : State) (b : Body) (a : Arrivals) → Admitted s b → Numbered a s.book → Numbered (given s b a) (take_in s b).state.book
unfolding take_in
take_numbered s (local q) a m k = k
take_numbered s (national q) a m k = k
take_numbered s (order t w) a m k =
    let n : NoneOf (order_row s t) = none_of (order_row s t) refl m.passed in
    order-numbered s t w a (not_open t.id s.book n.1.0) k s.auction
take_numbered s (response t) a m k =
    let n : NoneOf (response_row s t) = none_of (response_row s t) refl m.passed in
    gave-added (s.clock.next - 1) a s.book (entry_of t (s.clock.next - 1) answer) refl (not_open t.id s.book n.1.1.0) k
take_numbered s (modify c) a m k = modify_numbered (s.clock.next - 1) c a s.book (find c.id s.book) refl k
take_numbered s (cancel i p) a m k = all-only (λ e. a e.id ≡ e.arrival) (λ e. not (eqb e.id i)) s.book k
take_numbered s clock a m k = k
take_numbered s (reduce i p n) a m k = all-reduced (λ e. a e.id ≡ e.arrival) i n (λ e q. q) s.book k

-- ---- an answer

-- the records stand by the arrival numbers after it and are the only ones that are good for message n, and every entry has its number
record Stands (n : ℕ) (a : Arrivals) (x : Answer) : Type 0 where
  pub numbered : Numbered a x.state.book
  pub told : Told (Standing a) x.turns x.fills
  pub fixed : (rs : List Fill) → Told (GoodTurn n) x.turns rs → Told (Standing a) x.turns rs → rs ≡ x.fills

acted-stands : (s : State) (b : Body) (a : Arrivals) → Admitted s b → Numbered a s.book → Stands (s.clock.next - 1) (given s b a) (acted s b)
unfolding acted
acted-stands s b a m n =
    let i : Intake = take_in s b in
    let w : State = watched b i.state in
    let r : Reply = follow w i.act in
    let k : Kept w r = follow_kept w i.act (watched_inv b i.state (take_inv s b m)) in
    let q : Numbered (given s b a) i.state.book = take_numbered s b a m n in
    subst (λ (c : Clock). Stands (c.next - 1) (given s b a) (answered b i.act r)) (take_clock s b)
    (record {
      numbered = k.came (given s b a) q;
      told = told (Standing (given s b a)) w r (λ t v. made_stands (given s b a) w t q v) k;
      fixed = λ rs. told_fixed (GoodTurn (w.clock.next - 1)) (Standing (given s b a)) r.turns rs
          (all_map (Made w) (λ t. (qs : List Fill) → GoodTurn (w.clock.next - 1) t qs → Standing (given s b a) t qs → qs ≡ t.records)
          (λ t v qs. made_fixed (given s b a) w t qs q v) r.turns k.made);
    })

given_is : (s : State) (m : Sent) (a : Arrivals) → refusal s m.message m.room ≡ 0 → given (taken s m.message.time) m.message.body a ≡ arrivals_after s m a
given_is s m a h = λ t i. at i t
  where
    at : (i : ℕ) → given (taken s m.message.time) m.message.body a i ≡ arrivals_after s m a i
    at i = rw (eq-eqb (refusal s m.message m.room) 0 h, back s.clock.next)

refused_is : (s : State) (m : Sent) (a : Arrivals) → (refusal s m.message m.room ≡ 0 → ⊥) → a ≡ arrivals_after s m a
refused_is s m a h = λ t i. at i t
  where
    at : (i : ℕ) → a i ≡ arrivals_after s m a i
    at i = rw (ne_eqb (refusal s m.message m.room) 0 h)

step-stands : (s : State) (m : Sent) (a : Arrivals) → Inv s → Numbered a s.book → Stands s.clock.next (arrivals_after s m a) (answer_to s m)
unfolding step accepted
step-stands s m a v n =
    elim (ℕ_discrete (refusal s m.message m.room) 0) [
      | yes e ↦ subst (λ (b : Arrivals). Stands s.clock.next b (answer_to s m)) (given_is s m a e) (subst (λ (x : ℕ). Stands x (given (taken s m.message.time) m.message.body a) (answer_to s m)) (back s.clock.next) (passed e))
      | no f ↦ subst (λ (b : Arrivals). Stands s.clock.next b (answer_to s m)) (refused_is s m a f) (stopped f)
    ]
  where
    passed : refusal s m.message m.room ≡ 0 → Stands (s.clock.next + 1 - 1) (given (taken s m.message.time) m.message.body a) (answer_to s m)
    passed e = rw (eq-eqb (refusal s m.message m.room) 0 e) (acted-stands (taken s m.message.time) m.message.body a (admitted s m.message m.room v e) n)

    stopped : (refusal s m.message m.room ≡ 0 → ⊥) → Stands s.clock.next a (answer_to s m)
    stopped f = rw (ne_eqb (refusal s m.message m.room) 0 f) (record { numbered = n; told = refl; fixed = λ rs p q. p })

-- ---- a list of messages

run-stands : (a : Arrivals) (s : State) (ms : List Sent) → Inv s → Numbered a s.book → AllStand a s ms (map (λ x. x.fills) (answers s ms))
unfolding answers
run-stands a s [] v n = tt
run-stands a s (m ∷ ms) v n =
    let x : Stands s.clock.next (arrivals_after s m a) (answer_to s m) = step-stands s m a v n in
    (x.told, run-stands (arrivals_after s m a) (answer_to s m).state ms (step_fine s m.message m.room v).inv x.numbered)

run_fixed : (a : Arrivals) (s : State) (ms : List Sent) (rss : List (List Fill)) → Inv s → Numbered a s.book → Good s ms rss → AllStand a s ms rss → rss ≡ map (λ x. x.fills) (answers s ms)
unfolding answers
run_fixed a s [] [] v n g h = refl
run_fixed a s [] (rs ∷ rss) v n g h = absurd g
run_fixed a s (m ∷ ms) [] v n g h = absurd g
run_fixed a s (m ∷ ms) (rs ∷ rss) v n g h =
    let x : Stands s.clock.next (arrivals_after s m a) (answer_to s m) = step-stands s m a v n in
    ap₂ (λ (f : List Fill) (fs : List (List Fill)). f ∷ fs) (x.fixed rs g.0 h.0)
    (run_fixed (arrivals_after s m a) (answer_to s m).state ms rss (step_fine s m.message m.room v).inv x.numbered g.1 h.1)

start_numbered : (o : Strategy) (s : State) → opening o ≡ started s → Numbered no_arrivals s.book
start_numbered o s h = subst (λ (r : State). Numbered no_arrivals r.book) (opened o s h).1 tt

pub records_by_arrival_of_rules : RecordsByArrivalOfRules
unfolding RecordsByArrivalOfRules
records_by_arrival_of_rules o s h ms = run-stands no_arrivals s ms (opened_inv o s h) (start_numbered o s h)

pub records_are_fixed : RecordsAreFixed
unfolding RecordsAreFixed
records_are_fixed o s h ms rss g b = run_fixed no_arrivals s ms rss (opened_inv o s h) (start_numbered o s h) g b
