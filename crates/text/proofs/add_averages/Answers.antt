use Rattle.text.proofs.AverageLaws.{no_averages, averages_more, averages_end}
use Rattle.text.proofs.PutsLaws.{puts_same, each_start, each_next}
use native.Mathlib.Omega.{arith}
use Rattle.text.proofs.add_averages.Goals as goal

pub loop-i-init : goal.loop-i-init
loop-i-init c = (omega arith, let a = c.args in each_start _ _ _ _ _ (no_averages a.list.now a.n) c.min-at.ensures)

pub loop-i-preserved : goal.loop-i-preserved
loop-i-preserved c =
    let a = c.args in
    (omega (arith, c.loop-i-test.true), each_next _ _ _ _ c.loop-i.i _ _ _ _ _ (averages_more a.list.now a.n c.loop-i.i) c.loop-i.invariant.1 c.add_first-at.ensures)

pub shape_of-out : goal.shape_of-out
shape_of-out c = let v = c.loop-i.invariant.1.puts in puts_same _ _ _ _ _ v

pub returns : goal.returns
returns c =
    let L = c.loop-i in
    let a = c.args in
    averages_end a.list.now a.n _ _ _ _ _ (omega (arith, L.invariant.0, c.loop-i-test.false, c.min-count.ensures)) L.invariant.1
