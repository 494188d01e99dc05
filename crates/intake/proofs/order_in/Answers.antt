use mathlib.Core.Path.{ap, ◌∙◌}
use Prim.Native.Nat.{ℕ}
use Rattle.rules.specs.Book.{held}
use Rattle.rules.specs.Messages.{order}
use Rattle.rules.specs.Step.{entry_of as new_entry, take_in}
use Rattle.types.specs.View.{order_terms}
use Rattle.state.specs.View.{pending_of, state_of}
use Rattle.intake.specs.Acts.{outside, during}
use Rattle.intake.proofs.ArrivalLaws.{pending-in, none_in, takes_as, order-pending, order-none}
use Rattle.intake.proofs.order_in.Goals as goal

pub returns-then-is_pending : goal.returns-then-is_pending
returns-then-is_pending c =
    let a = c.args in
    let l = a.longs.now in
    let w = a.words.now in
    let s = state_of l w in
    let t = order_terms a.o in
    let e = c.new_order-e.ensures ∙ ap (λ (n : ℕ). new_entry t n held) c.number_of.ensures in
    let p = pending_of l w in
    let h = pending-in l w c.is_pending.result (c.is_pending.ensures l) c.if-is_pending.true in
    takes_as (λ u. take_in u (order t a.o.wish)) (ap (during s p a.o.wish) e ∙ order-pending s t a.o.wish p h) (c.order_during.ensures p h)

pub returns : goal.returns
returns c =
    let a = c.args in
    let l = a.longs.now in
    let w = a.words.now in
    let s = state_of l w in
    let t = order_terms a.o in
    let e = c.new_order-e.ensures ∙ ap (λ (n : ℕ). new_entry t n held) c.number_of.ensures in
    let h = none_in l w c.is_pending.result (c.is_pending.ensures l) c.if-is_pending.false in
    takes_as (λ u. take_in u (order t a.o.wish)) (ap (outside s a.o.wish) e ∙ order-none s t a.o.wish h) c.order_outside.ensures
