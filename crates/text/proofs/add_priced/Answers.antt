use mathlib.Core.Path.{◌≡◌}
use native.Mathlib.Omega.{arith}
use Rattle.text.proofs.PutsLaws.{puts_same, each_start, each_next}
use Rattle.text.proofs.PriceLaws.{prices_held, no_priced, one-priced}
use Rattle.text.proofs.add_priced.Goals as goal

pub loop-i-init : goal.loop-i-init
loop-i-init c = (omega arith, each_start _ _ _ _ _ (no_priced c.args.list.now) c.min-at.ensures)

pub loop-i-preserved : goal.loop-i-preserved
loop-i-preserved c =
    let a = c.args in
    (omega (arith, c.loop-i-test.true), each_next _ _ _ _ c.loop-i.i _ _ _ _ _ (one-priced a.list.now c.loop-i.i _ _ c.fill_at.ensures.0 (prices_held a.list.now c.loop-i.i c.fill_at.result c.fill_at.ensures)) c.loop-i.invariant.1 c.add_both-at.ensures)

pub shape_of-out : goal.shape_of-out
shape_of-out c = let v = c.loop-i.invariant.1.puts in puts_same _ _ _ _ _ v

pub returns : goal.returns
returns c =
    let L = c.loop-i in
    let a = c.args in
    let e : L.i ≡ a.n = omega (arith, L.invariant.0, c.loop-i-test.false) in
    let v = rw e at L.invariant.1 in
    (v.puts, v.few)
