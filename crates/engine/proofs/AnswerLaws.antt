-- A message taken in and followed up, and the answer that comes of it.
use mathlib.Core.Path.{◌≡◌, refl, ap, subst, sym, ◌∙◌}
use mathlib.Core.Bool.{Bool, true, false}
use mathlib.Core.List.{List}
use Prim.Native.Nat.{ℕ, ◌+◌, ◌-◌, ◌*◌, ◌/◌, ◌≤◌, min}
use native.Mathlib.Omega.{arith}
use borrow.Author.Tests.{eq-eqb, ne_eqb}
use lib.Dec.{eqb}
use lib.ListN.{length, get_or}
use Rattle.rules.specs.Basics.{pick}
use Rattle.rules.specs.Strategy.{most_number, most_time}
use Rattle.rules.specs.Messages.{Message}
use Rattle.rules.specs.State.{State, taken}
use Rattle.rules.specs.Outcome.{Refused}
use Rattle.rules.specs.Refusals.{least_room, refusal}
use Rattle.rules.specs.Execution.{Reply}
use Rattle.rules.specs.Step as R
use Rattle.rules.specs.Step.{Intake, take_in, follow, records_of, prices_of, watched, acted, accepted, step}
use Rattle.rules.proofs.BoundLaws.{acted-fits}
use Rattle.types.specs.View.{outcome_of}
use Rattle.types.proofs.TableLaws.{from-length, from_end}
use Rattle.state.specs.Layout as L
use Rattle.state.specs.Layout.{Sized, is_sized}
use Rattle.state.proofs.StateLaws.{sized_is, sized_not}
use Rattle.state.specs.View.{entry_at, open_count, state_of}
use Rattle.records.specs.Records.{width, record_in, prices_in, AddsPriced}
use Rattle.intake.specs.declared.Act.{Act}
use Rattle.intake.specs.Acts.{act_of, Takes}
use Rattle.execution.specs.Plays.{Goes}
use Rattle.engine.specs.declared.Answer.{Answer}
use Rattle.engine.specs.Steps.{places_in, refusal_in, IsAccepted, IsStep}
use Rattle.engine.proofs.StepLaws.{passes, no_places}

-- ---- a message that is not refused

few : (l w : List ℕ) (m : Message) → length (accepted (state_of l w) m).fills ≤ least_room
unfolding accepted
few l w m =
    let z : open_count w - 0 ≤ 64 = omega arith in
    (acted-fits (taken (state_of l w) m.time) m.body (rw (from-length (entry_at l w) 0 (open_count w)) z)).0

module _ (l l₁ w : List ℕ) (u : State) (l₂ w₂ list l₃ w₃ list' : List ℕ) (act : Act) (n : ℕ) (m : Message) (t : state_of l₁ w ≡ taken (state_of l w) m.time) (i : Takes (state_of l₁ w) u act (λ s. take_in s m.body)) (v : state_of l₂ w₂ ≡ watched m.body u) (g : Goes l₂ w₂ list 0 l₃ w₃ list' n (λ s. follow s (act_of act))) where
  abbrev taken_in : Intake
  taken_in = take_in (taken (state_of l w) m.time) m.body

  replies : follow (state_of l₂ w₂) (act_of act) ≡ follow (watched m.body taken_in.state) taken_in.act
  replies =
      (λ j. follow ((v ∙ ap (watched m.body) i.state) j) (i.act j)) ∙ ap (λ (s : State). let x = take_in s m.body in follow (watched m.body x.state) x.act) t

  pub accepted-records : AddsPriced list 0 list' n (accepted (state_of l w) m).fills (accepted (state_of l w) m).prices
  unfolding accepted acted
  accepted-records = subst (λ (r : Reply). AddsPriced list 0 list' n (records_of r.turns) (prices_of r.turns)) replies g.records

  accepted-state : state_of l₃ w₃ ≡ (accepted (state_of l w) m).state
  unfolding accepted acted
  accepted-state = g.state ∙ ap (λ (r : Reply). r.state) replies

  -- there is room for them all
  pub accepted-count : least_room * width ≤ length list → (n ≡ length (accepted (state_of l w) m).fills) × (n ≤ least_room)
  accepted-count h =
      let q : length (accepted (state_of l w) m).fills ≤ least_room = few l w m in
      let e : n ≡ 0 + length (accepted (state_of l w) m).fills = (accepted-records.records.made (omega arith)).0 in
      (omega arith, omega arith)

  pub accepted-is : (r : Answer) → least_room * width ≤ length list → r.count ≡ n → outcome_of r.outcome ≡ R.outcome_of m.body (act_of act) (state_of l₃ w₃) n → IsAccepted l w list m l₃ w₃ list' r
  unfolding accepted acted
  accepted-is r h c o = record {
    state = accepted-state;
    outcome =
        o
        ∙ (λ j. R.outcome_of m.body ((i.act ∙ ap (λ (s : State). (take_in s m.body).act) t) j) (accepted-state j) ((accepted-count h).0 j));
    records = rw c accepted-records;
  }

-- ---- refused, or accepted

-- what is known of the slices and the message where none of the table's conditions holds
pub record Passed (l w list : List ℕ) (m : Message) : Type 0 where
  pub sized : is_sized l w ≡ true
  pub room : least_room * width ≤ length list
  pub time : m.time ≤ most_time
  pub next : get_or l L.next 0 ≤ most_number

pub let-pass : (l w list : List ℕ) (m : Message) (room : ℕ) → refusal_in l w list m room ≡ 0 → Passed l w list m
let-pass l w list m room h = go (is_sized l w) refl h
  where
    go : (b : Bool) → is_sized l w ≡ b → refusal (state_of l w) m (pick b (min room (length list / width)) 0) ≡ 0 → Passed l w list m
    go true e k = let p = passes (state_of l w) m (min room (length list / width)) k in let q : least_room ≤ min room (length list / width) = p.0 in record { sized = e; room = omega arith; time = p.1; next = p.2 }
    go false e k = let z : refusal (state_of l w) m 0 ≡ 10 = no_places (state_of l w) m in absurd (omega arith)

module _ (l w list : List ℕ) (m : Message) (room : ℕ) where
  abbrev places : ℕ
  places = places_in l w list room

  pub step-accepted : (l' w' list' : List ℕ) (r : Answer) → refusal (state_of l w) m places ≡ 0 → length l' ≡ length l → length w' ≡ length w → IsAccepted l w list m l' w' list' r → IsStep l w list m room l' w' list' r
  unfolding step
  step-accepted l' w' list' r h p q a =
      let ok : eqb (refusal (state_of l w) m places) 0 ≡ true = eq-eqb (refusal (state_of l w) m places) 0 h in
      let least : least_room ≤ places = (passes (state_of l w) m places h).0 in
      let is : places ≡ min room (length list / width) = rw (let-pass l w list m room h).sized refl in
      let f : length (accepted (state_of l w) m).fills ≤ least_room = few l w m in
      let k = a.records.records.made (omega arith) in
      let e : r.count ≡ 0 + length (accepted (state_of l w) m).fills = k.0 in
      record {
        state = rw ok a.state;
        outcome = rw ok a.outcome;
        count = rw ok (omega arith);
        records = rw ok k.1;
        prices = rw ok (a.records.prices (omega arith));
        behind = a.records.records.behind;
        sized = (p, q, a.records.records.sized);
        inside = (omega arith, omega arith);
        refused = λ x. absurd (omega arith);
      }

  pub step_refused : (r : Answer) → (refusal (state_of l w) m places ≡ 0 → ⊥) → r.count ≡ 0 → outcome_of r.outcome ≡ Refused (refusal (state_of l w) m places) → IsStep l w list m room l w list r
  unfolding step
  step_refused r h c o =
      let no : eqb (refusal (state_of l w) m places) 0 ≡ false = ne_eqb (refusal (state_of l w) m places) 0 h in
      record {
        state = rw no refl;
        outcome = rw no o;
        count = rw no c;
        records = rw (no, c) (from_end (record_in list) 0 0 (omega arith));
        prices = rw (no, c) (from_end (prices_in list) 0 0 (omega arith));
        behind = λ i x. refl;
        sized = (refl, refl, refl);
        inside = (omega arith, omega arith);
        refused = λ x. (refl, refl, refl);
      }

-- ---- the places of a list, by the slices' lengths

pub all-fit : (l w list : List ℕ) (room n : ℕ) → Sized l w → n ≡ min room (length list / width) → n ≡ places_in l w list room
all-fit l w list room n s e = rw (sized_is l w s) e

pub unfit : (l w list : List ℕ) (m : Message) (room : ℕ) (r : Answer) → (Sized l w → ⊥) → r.count ≡ 0 → outcome_of r.outcome ≡ Refused 10 → IsStep l w list m room l w list r
unfit l w list m room r n c o =
    let e : refusal (state_of l w) m (places_in l w list room) ≡ 10 = rw (sized_not l w n) (no_places (state_of l w) m) in
    step_refused l w list m room r (λ z. absurd (omega (arith, e, z))) c (o ∙ ap Refused (sym e))
