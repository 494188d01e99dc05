use Rattle.average.proofs.SumLaws.{paid-step, paid-end, units-within, part-fits}
use native.Mathlib.Omega.{arith}
use Rattle.average.proofs.sum_of.Goals as goal

pub loop-i-init : goal.loop-i-init
loop-i-init c = let p = c.parts_of-total.ensures in (omega arith, p.below, omega (arith, p.is))

pub with_record-total-requires : goal.with_record-total-requires
with_record-total-requires c =
    let L = c.loop-i in
    let a = c.args in
    let t = c.loop-i-test.true in
    (c.requires.0, L.invariant.1, omega (arith, c.requires.1, units-within a.list.now a.order a.n L.i t), part-fits a.list.now a.order a.n a.units _ L.i c.requires.0.0 c.requires.1 t L.invariant.2)

pub loop-i-preserved : goal.loop-i-preserved
loop-i-preserved c =
    let L = c.loop-i in
    let a = c.args in
    let t = c.loop-i-test.true in
    let w = c.with_record-total.ensures in
    (omega (arith, t), w.below, omega (arith, w.is, L.invariant.2, paid-step a.list.now a.order a.n L.i t))

pub returns : goal.returns
returns c =
    let L = c.loop-i in
    let a = c.args in
    record { is = omega (arith, L.invariant.2, paid-end a.list.now a.order a.n L.i c.loop-i-test.false); below = L.invariant.1 }
