-- The lines of a message: its records and their averages, or the refused line.
use mathlib.Core.Path.{◌≡◌, refl, ap, sym, ◌∙◌, subst}
use mathlib.Core.Bool.{Bool, true, false}
use mathlib.Core.List.{List, [], ◌++◌, append-nil}
use Prim.Native.Nat.{ℕ, ◌*◌, ◌≤◌, min}
use native.Mathlib.Omega.{arith}
use lib.Dec.{eqb}
use lib.ListN.{length}
use Rattle.rules.specs.Basics.{pick}
use Rattle.rules.specs.Messages.{Body, local, national, order, response, modify, cancel, clock, reduce, Message}
use Rattle.rules.specs.State.{State, taken}
use Rattle.rules.specs.Refusals.{least_room, refusal}
use Rattle.rules.specs.Turn.{Fill}
use Rattle.rules.specs.Step.{Act, goes_on, begins, joining, ends, take_in, follow, records_of, outcome_of, watched, acted, accepted, turned_back, step}
use Rattle.rules.specs.Average.{averages}
use Rattle.rules.specs.Print.{record_lines, refused_lines}
use Rattle.types.specs.View as View
use Rattle.state.specs.Layout.{Sized}
use Rattle.state.specs.View.{state_of}
use Rattle.records.specs.Records.{width}
use Rattle.engine.specs.declared.Answer.{Answer as Given}
use Rattle.engine.specs.Steps.{places_in, IsStep}
use Rattle.engine.proofs.StepLaws.{all-places}
use Rattle.average.specs.Sums.{first_records}
use Rattle.text.specs.Text.{lines_text}
use Rattle.text.specs.Outputs.{most_line, Puts}
use Rattle.text.proofs.PutsLaws.{puts_then, lines_append}
use Rattle.text.proofs.FillLaws.{records_known}
use Rattle.session.specs.Lines.{most_text, IsTold}

-- ---- at most 4,000 of them, or one line

-- an accepted message has no refused line
none_refused : (k : ℕ) (b : Body) (a : Act) (s : State) (n : ℕ) → refused_lines k (outcome_of b a s n) ≡ []
none_refused k (local q) goes_on s n = refl
none_refused k (national q) goes_on s n = refl
none_refused k (order t w) goes_on s n = refl
none_refused k (response t) goes_on s n = refl
none_refused k (modify c) goes_on s n = refl
none_refused k (cancel i p) goes_on s n = refl
none_refused k clock goes_on s n = refl
none_refused k (reduce i p u) goes_on s n = refl
none_refused k b begins s n = refl
none_refused k b joining s n = refl
none_refused k b (ends c) s n = refl

accepted_none : (k : ℕ) (s : State) (m : Message) → refused_lines k (accepted s m).outcome ≡ []
unfolding accepted acted
accepted_none k s m =
    let i = take_in (taken s m.time) m.body in
    let q = follow (watched m.body i.state) i.act in
    none_refused k m.body i.act q.state (length (records_of q.turns))

few_lines : (k : ℕ) (s : State) (m : Message) (room : ℕ) → let a = step s m room in length (lines_text (record_lines a.fills)) ≤ most_text → length (lines_text (refused_lines k a.outcome)) ≤ most_line
    → length (lines_text (record_lines a.fills ++ refused_lines k a.outcome)) ≤ most_text
unfolding step averages
few_lines k s m room = go (eqb (refusal s m room) 0) (refusal s m room)
  where
    go : (b : Bool) (n : ℕ) → let a = pick b (accepted s m) (turned_back s n) in length (lines_text (record_lines a.fills)) ≤ most_text → length (lines_text (refused_lines k a.outcome)) ≤ most_line
        → length (lines_text (record_lines a.fills ++ refused_lines k a.outcome)) ≤ most_text
    go true n f r = rw (accepted_none k s m, append-nil (record_lines (accepted s m).fills)) f
    go false n f r = omega (arith, r)

-- ---- a message told

pub message_told : (k : ℕ) (m : Message) (l w list lent : List ℕ) (at : ℕ) (l' w' list' mid : List ℕ) (end : ℕ) (out : List ℕ) (r : ℕ) (a : Given) → Sized l w → least_room * width ≤ length list
    → IsStep l w list m least_room l' w' list' a
    → Puts (lines_text (record_lines (first_records list' a.count))) lent at end mid × (length (lines_text (record_lines (first_records list' a.count))) ≤ 2 * most_line * min a.count least_room)
    → Puts (lines_text (refused_lines k (View.outcome_of a.outcome))) mid end r out × (length (lines_text (refused_lines k (View.outcome_of a.outcome))) ≤ most_line)
    → IsTold k m l w list lent at l' w' list' out r
message_told k m l w list lent at l' w' list' mid end out r a z h t p q =
    let s : State = state_of l w in
    let e : places_in l w list least_room ≡ least_room = all-places l w list z h in
    let g : List Fill = first_records list' a.count in
    let f : g ≡ (step s m least_room).fills = records_known list' a.count t.inside.0 (omega (arith, t.sized.2, t.inside.1)) ∙ t.records ∙ ap (λ (n : ℕ). (step s m n).fills) e in
    let o : View.outcome_of a.outcome ≡ (step s m least_room).outcome = t.outcome ∙ ap (λ (n : ℕ). (step s m n).outcome) e in
    let n : a.count ≤ least_room = t.inside.0 in
    let x : length (lines_text (record_lines g)) ≤ most_text = let y = p.1 in omega (arith, y, n) in
    record {
      puts =
          subst (λ (x : List ℕ). Puts x lent at r out) (sym (lines_append (record_lines g) (refused_lines k (View.outcome_of a.outcome))) ∙ (λ i. lines_text (record_lines (f i) ++ refused_lines k (o i))))
          (puts_then _ _ lent at mid end r out p.0 q.0);
      few = few_lines k s m least_room (rw f at x) (rw o at q.1);
      state = t.state ∙ ap (λ (n : ℕ). (step s m n).state) e;
      refused = λ y. t.refused (rw e y);
    }
