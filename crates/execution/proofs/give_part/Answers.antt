use lib.ListN.{take}
use Rattle.execution.proofs.GrantLaws.{part_is}
use Rattle.execution.proofs.give_part.Goals as goal

pub returns : goal.returns
returns c =
    let a = c.args in
    let e = c.give.ensures in
    (part_is a.k a.amount (take a.slots.now.count a.slots.now.tiers) (take a.slots.now.count a.slots.now.units) (take a.slots.now.count a.gave.now) c.gather.ensures c.deal.ensures e.0, e.1)
