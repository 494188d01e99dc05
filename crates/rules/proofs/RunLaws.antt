-- Demand 3: every answer of every run.
use mathlib.Core.Path.{◌≡◌, refl, ap, sym, subst}
use mathlib.Core.Bool.{Bool, true, false, true≢false}
use mathlib.Core.List.{List, [], ◌∷◌, map}
use Prim.Native.Nat.{ℕ, ◌+◌, ◌-◌}
use native.Mathlib.Decide.{ℕ_discrete}
use native.Mathlib.Omega.{arith}
use borrow.Author.Tests.{eq-eqb, ne_eqb}
use Rattle.rules.specs.Strategy.{Strategy, opening_refusal}
use Rattle.rules.specs.Messages.{Body, Message}
use Rattle.rules.specs.Refusals.{refusal}
use Rattle.rules.specs.State.{Clock, Auction, none, pending, State, taken}
use Rattle.rules.specs.Execution.{Reply, still}
use Rattle.rules.specs.Step.{Act, goes_on, begins, joining, ends, Intake, take_in, quiet, follow, Answer, answered, watched, acted, accepted, step}
use Rattle.rules.specs.Run.{Opened, refused_opening, started, start_of, opening, Sent, answer_to, answers}
use Rattle.rules.specs.Demand.{GoodTurn, Told, Good, Demand3OfRules}
use Rattle.rules.specs.Reached.{Inv}
use Rattle.rules.proofs.ServeLaws.{made_good, Kept, steps_kept, ending_kept}
use Rattle.rules.proofs.ClaimLaws.{told}
use Rattle.rules.proofs.IntakeLaws.{Admitted, admitted, take_inv, take_clock, start_inv, watched_inv}

pub back : (x : ℕ) → x + 1 - 1 ≡ x
back x = omega arith

still_kept : (s : State) → Inv s → Kept s (still s)
still_kept s v = record { inv = v; came = λ a n. n; made = tt; apart = tt }

quiet_kept : (s : State) (a : Auction) → Inv s → Kept s (quiet s a)
quiet_kept s none v = steps_kept s v
quiet_kept s (pending p) v = still_kept s v

pub follow_kept : (s : State) (a : Act) → Inv s → Kept s (follow s a)
follow_kept s goes_on v = quiet_kept s s.auction v
follow_kept s begins v = still_kept s v
follow_kept s joining v = still_kept s v
follow_kept s (ends c) v = ending_kept s v

-- an answer: its records are told, and its state keeps the invariant
pub record Fine (n : ℕ) (a : Answer) : Type 0 where
  pub inv : Inv a.state
  pub told : Told (GoodTurn n) a.turns a.fills

pub answered_fine : (s : State) (b : Body) (a : Act) (r : Reply) → Kept s r → Fine (s.clock.next - 1) (answered b a r)
answered_fine s b a r k = record { inv = k.inv; told = told (GoodTurn (s.clock.next - 1)) s r (made_good s) k }

pub acted_fine : (s : State) (b : Body) → Admitted s b → Fine (s.clock.next - 1) (acted s b)
unfolding acted
acted_fine s b a =
    let i : Intake = take_in s b in
    let r : State = watched b i.state in
    subst (λ (c : Clock). Fine (c.next - 1) (answered b i.act (follow r i.act))) (take_clock s b)
    (answered_fine r b i.act (follow r i.act) (follow_kept r i.act (watched_inv b i.state (take_inv s b a))))

accepted_fine : (s : State) (m : Message) (room : ℕ) → Inv s → refusal s m room ≡ 0 → Fine s.clock.next (accepted s m)
unfolding accepted
accepted_fine s m room v h = subst (λ (n : ℕ). Fine n (acted (taken s m.time) m.body)) (back s.clock.next) (acted_fine (taken s m.time) m.body (admitted s m room v h))

pub step_fine : (s : State) (m : Message) (room : ℕ) → Inv s → Fine s.clock.next (step s m room)
unfolding step
step_fine s m room v =
    elim (ℕ_discrete (refusal s m room) 0) [
      | yes e ↦ rw (eq-eqb (refusal s m room) 0 e) (accepted_fine s m room v e)
      | no n ↦ rw (ne_eqb (refusal s m room) 0 n) (record { inv = v; told = refl })
    ]

pub run_good : (s : State) (ms : List Sent) → Inv s → Good s ms (map (λ a. a.fills) (answers s ms))
unfolding answers
run_good s [] v = tt
run_good s (m ∷ ms) v =
    let f : Fine s.clock.next (answer_to s m) = step_fine s m.message m.room v in
    (f.told, run_good (answer_to s m).state ms f.inv)

abbrev state_or : State → Opened → State
state_or d (refused_opening n) = d
state_or d (started s) = s

abbrev is_started : Opened → Bool
is_started (refused_opening n) = false
is_started (started s) = true

-- an opening that gives a state is not refused, and gives the starting state
pub opened : (o : Strategy) (s : State) → opening o ≡ started s → (opening_refusal o ≡ 0) × (start_of o ≡ s)
unfolding opening
opened o s h =
    elim (ℕ_discrete (opening_refusal o) 0) [
      | yes e ↦ (
          let z : started (start_of o) ≡ started s = rw (eq-eqb (opening_refusal o) 0 e) at h in
          (e, ap (state_or s) z)
          )
      | no n ↦ (
          let z : refused_opening (opening_refusal o) ≡ started s = rw (ne_eqb (opening_refusal o) 0 n) at h in
          absurd (true≢false (sym (ap is_started z)))
          )
    ]

pub opened_inv : (o : Strategy) (s : State) → opening o ≡ started s → Inv s
opened_inv o s h = let p : (opening_refusal o ≡ 0) × (start_of o ≡ s) = opened o s h in subst Inv p.1 (start_inv o p.0)

pub demand_3_of_rules : Demand3OfRules
unfolding Demand3OfRules
demand_3_of_rules o s h ms = run_good s ms (opened_inv o s h)
