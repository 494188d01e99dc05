use mathlib.Core.Path.{refl, sym, ◌∙◌}
use native.Mathlib.Omega.{arith}
use lib.Seq.{drop-set-lt}
use borrow.Author.Rules.{rules}
use Rattle.share.proofs.LoopLaws.{done, turn_step, turn_end}
use Rattle.share.proofs.in_turn.Goals as goal

pub loop-i-init : goal.loop-i-init
loop-i-init c = (search rules, search rules, refl, refl)

pub loop-i-preserved : goal.loop-i-preserved
loop-i-preserved c =
    let ss = c.args.sizes.now in (
      omega arith,
      c.loop-i.invariant.1,
      rw c.min-g.ensures
          (turn_step c.min-m.result c.loop-i.i ss (omega arith) (omega arith) c.loop-i.rest c.loop-i.out (omega arith) ∙ c.loop-i.invariant.2),
      drop-set-lt c.min-m.result c.loop-i.out c.loop-i.i c.min-g.result (omega arith) ∙ c.loop-i.invariant.3,
    )

pub returns : goal.returns
returns c =
    let L = c.loop-i in
    let m = c.min-m.result in
    let ss = c.args.sizes.now in
    let e = c.min-m.ensures in
    (rw (← e) (sym (done m L.i L.out _ (omega arith) (omega arith) (turn_end m L.i (omega arith) ss L.rest)) ∙ L.invariant.2), rw (← e) L.invariant.3)
