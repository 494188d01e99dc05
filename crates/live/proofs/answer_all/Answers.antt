use mathlib.Core.Path.{refl, sym}
use mathlib.Core.Bool.{true≢false}
use native.Mathlib.Omega.{arith}
use lib.Seq.{length-take-le}
use Rattle.text.proofs.PutsLaws.{puts_room}
use Rattle.live.proofs.LiveLaws.{goes_none, goes-next, some-answered}
use borrow.Author.Rules.{rules}
use Rattle.live.proofs.answer_all.Goals as goal

pub loop-p-init : goal.loop-p-init
loop-p-init c = (refl, goes_none _ _)

pub shared_ref_as_front-hand_over : goal.shared_ref_as_front-hand_over
shared_ref_as_front-hand_over c = omega (arith, puts_room _ _ _ _ _ c.run-p.ensures.told.puts.puts)

pub slice_bounds-hand_over-end : goal.slice_bounds-hand_over-end
slice_bounds-hand_over-end c = sym (length-take-le _ _ (puts_room _ _ _ _ _ c.run-p.ensures.told.puts.puts))

pub returns-then-not-h : goal.returns-then-not-h
returns-then-not-h c =
    let v = c.loop-p.invariant in
    let g = goes-next c.args.input.now c.loop-p.p _ _ _ _ _ _ c.run-p.ensures v.0 _ _ _ (omega arith) v.1 c.hand_over-h.ensures in
    record { inside = g.inside; all = λ e. absurd (true≢false (sym e)); state = g.state; size = g.size }

pub loop-p-smaller : goal.loop-p-smaller
loop-p-smaller c =
    let h = c.loop-p-test.true in
    let o = some-answered c.args.input.now c.loop-p.p _ _ _ _ _ _ c.run-p.ensures c.loop-p.invariant.0 h in
    omega (arith, o, h)

pub loop-p-preserved : goal.loop-p-preserved
loop-p-preserved c =
    let v = c.loop-p.invariant in
    let g = goes-next c.args.input.now c.loop-p.p _ _ _ _ _ _ c.run-p.ensures v.0 _ _ _ (omega arith) v.1 c.hand_over-h.ensures in
    (refl, g)

pub returns : goal.returns
returns c =
    let g = c.loop-p.invariant.1 in
    record { inside = g.inside; all = λ e. omega (arith, g.inside, c.loop-p-test.false); state = g.state; size = g.size }
