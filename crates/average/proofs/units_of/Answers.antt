use Rattle.average.proofs.SumLaws.{units-few}
use Rattle.average.proofs.SumLaws.{units-step, units-end}
use native.Mathlib.Omega.{arith}
use Rattle.average.proofs.units_of.Goals as goal

pub loop-i-init : goal.loop-i-init
loop-i-init c = (omega arith, omega arith, omega arith)

pub loop-i-preserved : goal.loop-i-preserved
loop-i-preserved c =
    let L = c.loop-i in
    let a = c.args in
    let t = c.loop-i-test.true in
    let u = c.units_named.ensures in
    (omega (arith, t), omega (arith, L.invariant.1, u, units-few a.list.now a.order L.i), omega (arith, L.invariant.2, u, units-step a.list.now a.order a.n L.i t))

pub returns : goal.returns
returns c =
    let L = c.loop-i in
    let a = c.args in
    (omega (arith, L.invariant.2, units-end a.list.now a.order a.n L.i c.loop-i-test.false), omega (arith, L.invariant.0, L.invariant.1))
