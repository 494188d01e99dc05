use mathlib.Core.Path.{refl, ap, sym, ◌∙◌}
use mathlib.Core.List.{[]}
use native.Mathlib.Omega.{arith}
use lib.ListN.{length}
use lib.Seq.{length-take-le}
use Rattle.state.specs.View.{state_of}
use Rattle.text.proofs.PutsLaws.{puts_same, puts_room}
use Rattle.session.proofs.RunLaws.{left_all, left_last, some-told, none-lost}
use Rattle.print.proofs.PageLaws.{handed}
use borrow.Author.Rules.{rules}
use Rattle.print.proofs.print_messages.Goals as goal

pub loop-p-init : goal.loop-p-init
loop-p-init c =
    let t = c.put_title-at.ensures in
    let end = t.0.end in
    let few = t.1 in
    (omega (arith, end, few), omega arith)

pub shared_ref_as_front-hand_over : goal.shared_ref_as_front-hand_over
shared_ref_as_front-hand_over c = omega (arith, puts_room _ _ _ _ _ c.run-p.ensures.told.puts.puts)

pub slice_bounds-hand_over-end : goal.slice_bounds-hand_over-end
slice_bounds-hand_over-end c = sym (length-take-le _ _ (puts_room _ _ _ _ _ c.run-p.ensures.told.puts.puts))

pub loop-p-smaller : goal.loop-p-smaller
loop-p-smaller c =
    let h = c.loop-p-test.true in
    let low = c.loop-p.invariant.0 in
    let o = some-told _ _ _ _ _ _ _ _ _ c.run-p.ensures h (omega (arith, low)) in
    omega (arith, o, h)

pub loop-p-preserved : goal.loop-p-preserved
loop-p-preserved c =
    let v = c.loop-p.invariant in
    let p = c.run-p.ensures.told.puts.puts in
    let w = (none-lost _ _ _ _ _ _ _ _ _ c.run-p.ensures (omega arith) (omega (arith, v.0))).1 in
    let h = handed _ _ _ _ _ _ _ p c.hand_over-h.ensures in
    (omega arith, omega (arith, h, w, v.1))

pub shared_ref_as_front-hand_over-2 : goal.shared_ref_as_front-hand_over-2
shared_ref_as_front-hand_over-2 c = omega (arith, puts_room _ _ _ _ _ (c.put_last-n.ensures []).0)

pub slice_bounds-hand_over-end-2 : goal.slice_bounds-hand_over-end-2
slice_bounds-hand_over-end-2 c = sym (length-take-le _ _ (puts_room _ _ _ _ _ (c.put_last-n.ensures []).0))

pub returns : goal.returns
returns c =
    let a = c.args in
    let t = c.put_title-at.ensures in
    let l = c.put_last-n.ensures c.loop-p.longs in
    let n = handed _ _ _ _ _ _ _ l.0 c.hand_over-last.ensures in
    let p = c.loop-p.p in
    let last = ap length (left_last a.tape.now a.b.count p.position p.next (state_of c.loop-p.longs c.loop-p.words) c.loop-p-test.false) in
    let all = ap length (left_all a.tape.now a.b.count a.b.at (state_of a.longs.now a.words.now)) in
    let first = t.0.end in
    let end = l.0.end in
    omega (arith, n, end, c.loop-p.invariant.1, last, all, first, t.1, l.1, c.loop-p.invariant.0)
