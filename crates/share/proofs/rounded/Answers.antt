use mathlib.Core.Path.{refl, sym, ◌∙◌}
use Prim.Native.Nat.{◌≤◌}
use native.Mathlib.Omega.{arith}
use lib.Seq.{drop-set-lt}
use borrow.Author.Rules.{rules}
use Rattle.share.proofs.LoopLaws.{done, gots-step, lefts-step, gots-end, lefts-end, product_fits, floor_small}
use Rattle.share.proofs.LeftoverLaws.{share_most}
use Rattle.share.proofs.rounded.Goals as goal

pub loop-i-init : goal.loop-i-init
loop-i-init c = (search rules, search rules, search rules, search rules, refl, refl, refl)

pub overflow_mul-x : goal.overflow_mul-x
overflow_mul-x c = record { fits = product_fits c.args.amount c.from.result (omega arith) (omega arith) }

pub overflow_cast-out : goal.overflow_cast-out
overflow_cast-out c =
    let L = c.loop-i in
    let a = c.args in
    let s : c.from.result ≤ a.all = omega (arith, c.from.ensures, L.invariant.3, share_most a.n L.i a.sizes.now (omega arith)) in
    omega (arith, floor_small a.amount c.from.result a.all L.invariant.2 s)

pub loop-i-preserved : goal.loop-i-preserved
loop-i-preserved c =
    let a = c.args in
    let e = c.from.ensures in (
      omega arith,
      c.loop-i.invariant.1,
      c.loop-i.invariant.2,
      c.loop-i.invariant.3,
      rw e (gots-step a.n c.loop-i.i a.sizes.now (omega arith) (omega arith) a.amount a.all c.loop-i.out (omega arith) ∙ c.loop-i.invariant.4),
      rw e (lefts-step a.n c.loop-i.i a.sizes.now (omega arith) (omega arith) a.amount a.all c.loop-i.rest (omega arith) ∙ c.loop-i.invariant.5),
      drop-set-lt a.n c.loop-i.out c.loop-i.i _ (omega arith) ∙ c.loop-i.invariant.6,
    )

pub returns : goal.returns
returns c =
    let a = c.args in
    let L = c.loop-i in (
      sym (done a.n L.i L.out _ (omega arith) (omega arith) (gots-end a.n L.i (omega arith) a.sizes.now a.amount a.all)) ∙ L.invariant.4,
      sym (done a.n L.i L.rest _ (omega arith) (omega arith) (lefts-end a.n L.i (omega arith) a.sizes.now a.amount a.all)) ∙ L.invariant.5,
      L.invariant.6,
    )
