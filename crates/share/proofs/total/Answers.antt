use native.Mathlib.Omega.{arith}
use borrow.Author.Rules.{rules}
use Rattle.share.proofs.LoopLaws.{sum_step, sum-end}
use Rattle.share.proofs.total.Goals as goal

pub loop-i-init : goal.loop-i-init
loop-i-init c = (search rules, search rules, search rules, omega arith)

pub loop-i-preserved : goal.loop-i-preserved
loop-i-preserved c =
    let a = c.args in (
      omega arith,
      c.loop-i.invariant.1,
      omega arith,
      omega (arith, c.from-t.ensures, sum_step a.n c.loop-i.i a.sizes.now (omega arith) (omega arith), c.loop-i.invariant.3),
    )

pub returns : goal.returns
returns c =
    let a = c.args in
    let L = c.loop-i in
    omega (arith, sum-end a.n L.i (omega arith) a.sizes.now, L.invariant.3)
