use native.Mathlib.Omega.{arith}
use Rattle.execution.specs.Slots.{rules_mode}
use Rattle.execution.proofs.ExecuteLaws.{open_turned}
use Rattle.execution.proofs.open_turn.Goals as goal

pub turn-requires : goal.turn-requires
turn-requires c =
    let e = c.interest.ensures in
    ((rw c.order_at-o.ensures c.requires.2.1, omega (arith, e.0), e.1), c.requires.1)

pub returns : goal.returns
returns c =
    let a = c.args in
    let e = c.interest.ensures in
    open_turned (rules_mode a.mode) a.longs.now a.words.now a.k a.d.price c.order_at-o.result c.interest.new.slots.tiers c.interest.new.slots.units c.interest.new.slots.count
    c.turn.new.gave c.turn.result.units a.list.now a.at c.turn.new.list c.turn.result.count c.order_at-o.ensures e.0 e.2 (c.turn.ensures a.longs.now)
