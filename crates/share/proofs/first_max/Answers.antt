use mathlib.Core.Path.{refl, sym, ◌∙◌}
use native.Mathlib.Omega.{arith}
use borrow.Author.Rules.{rules}
use Rattle.share.proofs.LoopLaws.{max-more, max-less, max-end}
use Rattle.share.proofs.LeftoverLaws.{pick_in}
use Rattle.share.proofs.first_max.Goals as goal
use Rattle.share.proofs.first_max.Goals.{then-most-x, else-most-x}

pub loop-i-init : goal.loop-i-init
loop-i-init c = (search rules, search rules, refl)

pub loop-i-preserved : goal.loop-i-preserved
loop-i-preserved c =
    let a = c.args in (
      omega arith,
      c.loop-i.invariant.1,
      elim c.if-most-x.branch [
        | then-most-x w ↦ rw (w.at-is, w.most-is) (max-more a.n c.loop-i.i a.rest.now (omega arith) (omega arith) c.loop-i.at c.loop-i.most w.if-most-x.true ∙ c.loop-i.invariant.2)
        | else-most-x w ↦ rw (w.at-is, w.most-is) (max-less a.n c.loop-i.i a.rest.now (omega arith) (omega arith) c.loop-i.at c.loop-i.most w.if-most-x.false ∙ c.loop-i.invariant.2)
      ],
    )

pub returns : goal.returns
returns c =
    let a = c.args in
    let L = c.loop-i in
    let e = sym (max-end a.n L.i (omega arith) a.rest.now L.at L.most) ∙ L.invariant.2 in
    (e, λ h. pick_in a.n L.at a.rest.now (omega arith) h e)
