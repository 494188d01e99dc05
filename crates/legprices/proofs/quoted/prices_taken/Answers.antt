use Prim.Native.Nat.{◌+◌}
use native.Mathlib.Omega.{arith}
use Rattle.quotes.specs.Ranges.{range_in}
use Rattle.legprices.proofs.RangeLaws.{taking-start, taking_step, taking-end}
use Rattle.legprices.proofs.quoted.prices_taken.Goals as goal

pub loop-k-init : goal.loop-k-init
loop-k-init c =
    let a = c.args in
    (omega arith, c.leg_count-n.ensures, taking-start a.words.now a.buy a.taken a.prices.now (omega arith))

pub loop-k-preserved : goal.loop-k-preserved
loop-k-preserved c =
    let a = c.args in
    let v = c.loop-k.invariant in
    (omega arith, v.1, taking_step a.words.now a.buy a.taken c.loop-k.prices c.loop-k.k c.price_used.result (range_in c.range_at.result) (omega arith) c.range_at.ensures c.price_used.ensures v.2)

pub returns : goal.returns
returns c =
    let a = c.args in
    let v = c.loop-k.invariant in
    (v.2.sized, taking-end a.words.now a.buy a.taken c.loop-k.prices c.loop-k.k (c.leg_count-n.result + 1) (omega arith) (omega arith) v.2)
