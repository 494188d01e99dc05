use mathlib.Core.Path.{refl, sym, ◌∙◌}
use native.Mathlib.Omega.{arith}
use borrow.Author.Rules.{rules}
use Rattle.share.proofs.LoopLaws.{done}
use Rattle.execution.proofs.SlotLaws.{gather-step, sizes-end}
use Rattle.execution.proofs.gather.Goals as goal

pub loop-i-init : goal.loop-i-init
loop-i-init c = (search rules, search rules, refl)

pub loop-i-preserved : goal.loop-i-preserved
loop-i-preserved c =
    let a = c.args in
    let e = gather-step a.slots.now.count c.loop-i.i a.slots.now.tiers a.slots.now.units (omega arith) (omega arith) (omega arith) a.k c.loop-i.sizes (omega arith) in
    (omega arith, search rules, rw c.at_tier.ensures (e ∙ c.loop-i.invariant.2))

pub returns : goal.returns
returns c =
    let a = c.args in
    let L = c.loop-i in
    sym (done a.slots.now.count L.i L.sizes _ (omega arith) (omega arith) (sizes-end a.slots.now.count L.i (omega arith) a.k a.slots.now.tiers _)) ∙ L.invariant.2
