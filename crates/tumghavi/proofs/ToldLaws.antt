-- An outcome in numbers counts the records of its answer, and says whether it is refused.
use mathlib.Core.Path.{◌≡◌, refl, ap, sym, subst, ◌∙◌}
use mathlib.Core.Bool.{Bool, true, false}
use mathlib.Core.List.{List}
use Prim.Native.Nat.{ℕ, ◌<◌}
use native.Mathlib.Omega.{arith}
use borrow.Author.Tests.{eqb-false}
use lib.Dec.{eqb}
use lib.ListN.{length}
use Rattle.rules.specs.Basics.{pick}
use Rattle.rules.specs.Refusals.{refusal}
use Rattle.rules.specs.Messages.{Body, local, national, order, response, modify, cancel, clock, reduce, Message}
use Rattle.rules.specs.State.{State, taken}
use Rattle.rules.specs.Step as R
use Rattle.rules.specs.Step.{Act, goes_on, begins, joining, ends}
use Rattle.rules.specs.Tape.{Fields, is_kind, message_from}
use Rattle.types.specs.View.{outcome_of}
use Rattle.engine.specs.declared.Answer.{Answer}
use Rattle.engine.specs.Steps.{records_in, all_prices_in, places_in}
use Rattle.state.specs.Layout.{Sized}
use Rattle.state.specs.View.{state_of}
use Rattle.state.proofs.StateLaws.{sized_is}
use Rattle.feed.specs.Replies.{answer_of, IsAnswer}
use Rattle.tumghavi.specs.declared.Outcome.{Outcome}
use Rattle.tumghavi.specs.Told.{numbers_of, places, told_in, IsTold}

-- ---- the fills of an outcome

-- they are as many as the records
abbrev Counted : R.Answer → Type 0
Counted a = (numbers_of a.outcome).fills ≡ length a.fills

counted_pick : (b : Bool) (x y : R.Answer) → Counted x → Counted y → Counted (pick b x y)
counted_pick true x y p q = p
counted_pick false x y p q = q

plain-counted : (b : Body) (s : State) (n : ℕ) → (numbers_of (R.plain b s n)).fills ≡ n
plain-counted (local q) s n = refl
plain-counted (national q) s n = refl
plain-counted (order t w) s n = refl
plain-counted (response t) s n = refl
plain-counted (modify c) s n = refl
plain-counted (cancel i p) s n = refl
plain-counted clock s n = refl
plain-counted (reduce i p u) s n = refl

-- an auction that begins, and an order that joins one, have none
answered-counted : (b : Body) (a : Act) (s : State) → Counted (R.answered b a (R.follow s a))
unfolding R.records_of
answered-counted b goes_on s = plain-counted b _ _
answered-counted b begins s = refl
answered-counted b joining s = refl
answered-counted b (ends c) s = refl

accepted-counted : (s : State) (m : Message) → Counted (R.accepted s m)
unfolding R.accepted R.acted
accepted-counted s m = let i = R.take_in (taken s m.time) m.body in answered-counted m.body i.act (R.watched m.body i.state)

step-counted : (s : State) (m : Message) (room : ℕ) → Counted (R.step s m room)
unfolding R.step
step-counted s m room = counted_pick (eqb (refusal s m room) 0) (R.accepted s m) (R.turned_back s (refusal s m room)) (accepted-counted s m) refl

answer_counted : (s : State) (f : Fields) (room : ℕ) → Counted (answer_of s f room)
unfolding answer_of
answer_counted s f room = counted_pick (is_kind f.kind) (R.step s (message_from f) room) (R.turned_back s 61) (step-counted s (message_from f) room) refl

-- ---- a refusal

-- an accepted message is not told as refused
accepted_kind : (b : Body) (a : Act) (s : State) (n : ℕ) → (numbers_of (R.outcome_of b a s n)).kind ≡ 6 → ⊥
accepted_kind (local q) goes_on s n e = omega arith
accepted_kind (national q) goes_on s n e = omega arith
accepted_kind (order t w) goes_on s n e = omega arith
accepted_kind (response t) goes_on s n e = omega arith
accepted_kind (modify c) goes_on s n e = omega arith
accepted_kind (cancel i p) goes_on s n e = omega arith
accepted_kind clock goes_on s n e = omega arith
accepted_kind (reduce i p u) goes_on s n e = omega arith
accepted_kind b begins s n e = omega arith
accepted_kind b joining s n e = omega arith
accepted_kind b (ends c) s n e = omega arith

step_refused : (s : State) (m : Message) (room : ℕ) → (numbers_of (R.step s m room).outcome).kind ≡ 6 → 0 < refusal s m room
unfolding R.step R.accepted R.acted
step_refused s m room e = go (eqb (refusal s m room) 0) refl e
  where
    go : (b : Bool) → eqb (refusal s m room) 0 ≡ b → (numbers_of (pick b (R.accepted s m) (R.turned_back s (refusal s m room))).outcome).kind ≡ 6 → 0 < refusal s m room
    go true h k = absurd (let i = R.take_in (taken s m.time) m.body in accepted_kind m.body i.act _ _ k)
    go false h k = omega (arith, eqb-false (refusal s m room) 0 h)

-- what is told as refused has a number
answer_refused : (s : State) (f : Fields) (room : ℕ) → (numbers_of (answer_of s f room).outcome).kind ≡ 6 → 0 < pick (is_kind f.kind) (refusal s (message_from f) room) 61
unfolding answer_of
answer_refused s f room e = go (is_kind f.kind) e
  where
    go : (b : Bool) → (numbers_of (pick b (R.step s (message_from f) room) (R.turned_back s 61)).outcome).kind ≡ 6 → 0 < pick b (refusal s (message_from f) room) 61
    go true k = step_refused s (message_from f) room k
    go false k = omega arith

-- ---- what is told of an answer

-- a state's arrays have all places of the list
all-places : (longs words list : List ℕ) → Sized longs words → places_in longs words list (places list) ≡ places list
all-places longs words list h = rw (sized_is longs words h) (omega arith)

pub told : (longs words list : List ℕ) (f : Fields) (longs' words' list' : List ℕ) (a : Answer) (r : Outcome) → Sized longs words
    → IsAnswer longs words list f (places list) longs' words' list' a → r ≡ numbers_of (outcome_of a.outcome) → IsTold longs words list f longs' words' list' r
told longs words list f longs' words' list' a r h p e =
    let q = all-places longs words list h in
    let o : r ≡ numbers_of (told_in longs words list f).outcome = rw q at (e ∙ ap numbers_of p.outcome) in
    let n : r.fills ≡ length (told_in longs words list f).fills = ap (λ (x : Outcome). x.fills) o ∙ answer_counted (state_of longs words) f (places list) in
    let k : length (told_in longs words list f).fills ≡ a.count = rw q at (sym p.count) in
    let c : r.fills ≡ a.count = n ∙ k in
    record {
      state = rw q at p.state;
      outcome = o;
      count = n;
      records = ap (records_in list') c ∙ (rw q at p.records);
      prices = ap (all_prices_in list') c ∙ (rw q at p.prices);
      behind = rw (sym c) at p.behind;
      sized = p.sized;
      inside = rw c p.inside.0;
      refused = λ z. p.refused (rw q (answer_refused (state_of longs words) f (places list) (ap (λ (x : Outcome). x.kind) (sym o) ∙ z)));
    }

-- of equal fields
pub same-told : (longs words list : List ℕ) (f g : Fields) (longs' words' list' : List ℕ) (r : Outcome) → f ≡ g → IsTold longs words list f longs' words' list' r → IsTold longs words list g longs' words' list' r
same-told longs words list f g longs' words' list' r e p = subst (λ (x : Fields). IsTold longs words list x longs' words' list' r) e p
