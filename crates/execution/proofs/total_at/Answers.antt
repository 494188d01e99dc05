use mathlib.Core.Path.{ap, ◌∙◌}
use native.Mathlib.Omega.{arith}
use borrow.Author.Rules.{rules}
use lib.ListN.{take, drop}
use Rattle.rules.specs.Basics.{sum}
use Rattle.execution.proofs.SlotLaws.{total-step, sizes-end}
use Rattle.execution.proofs.total_at.Goals as goal

pub loop-i-init : goal.loop-i-init
loop-i-init c = (search rules, search rules, omega arith)

pub loop-i-preserved : goal.loop-i-preserved
loop-i-preserved c =
    let a = c.args in
    let e = total-step a.slots.now.count c.loop-i.i a.slots.now.tiers a.slots.now.units (omega arith) (omega arith) (omega arith) a.k in
    let w = c.from-sum.ensures ∙ c.at_tier.ensures in
    (omega arith, omega (arith, c.from-sum.ensures, c.loop-i.invariant.1), omega (arith, w, e, c.loop-i.invariant.2))

pub returns : goal.returns
returns c =
    let L = c.loop-i in
    let a = c.args in
    let z = ap sum (sizes-end a.slots.now.count L.i (omega arith) a.k a.slots.now.tiers (drop L.i (take a.slots.now.count a.slots.now.units))) in
    omega (arith, z, L.invariant.2)
