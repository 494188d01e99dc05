use native.Mathlib.Omega.{arith}
use Rattle.types.specs.View.{derived_of}
use Rattle.execution.proofs.ExecuteLaws.{legs-turned}
use Rattle.execution.proofs.legs_turn.Goals as goal

pub put_slot-count-requires : goal.put_slot-count-requires
put_slot-count-requires c =
    (omega arith, rw c.order_at-o.ensures c.requires.2.1)

pub returns : goal.returns
returns c =
    let a = c.args in
    let e = rw (c.order_at-o.ensures, c.legs_units-shown.ensures, c.is_set-buy.ensures) at c.min-units.ensures in
    let r = rw c.order_at-o.ensures at c.put_slot-count.ensures in
    legs-turned a.longs.now a.words.now a.k (derived_of a.d) c.requires.2.0 a.gave.now c.requires.1 c.min-units.result a.list.now a.at c.put_slot-count.new.list c.put_slot-count.result e r
