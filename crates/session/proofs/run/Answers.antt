use mathlib.Core.Path.{refl}
use native.Mathlib.Omega.{arith}
use Rattle.text.proofs.PutsLaws.{puts_same}
use Rattle.session.proofs.RunLaws.{told-start, told-next, told-from}
use borrow.Author.Rules.{rules}
use Rattle.session.proofs.run.Goals as goal

pub loop-position-init : goal.loop-position-init
loop-position-init c = (refl, refl, refl, told-start _ _ _ _ _ _ _ (let e = c.min-at.ensures in omega (arith, e)))

pub shape_of-out-then-most-at : goal.shape_of-out-then-most-at
shape_of-out-then-most-at c = let v = c.loop-position.invariant.3.puts.puts in puts_same _ _ _ _ _ v

pub returns-then-most-at : goal.returns-then-most-at
returns-then-most-at c =
    let a = c.args in
    record { told = told-from a.tape.now a.count a.p _ _ _ _ _ _ _ c.min-at.ensures c.loop-position.invariant.3; end = λ h. c.if-most-at.true }

pub loop-position-preserved : goal.loop-position-preserved
loop-position-preserved c =
    let v = c.loop-position.invariant in
    let d = c.tell-at.ensures in
    let a = c.args in (
      search rules,
      search rules,
      search rules,
      told-next _ _ _ _ _ _ _ _ _ v.3 _ _ _ _ c.loop-position-test.true (omega (arith, c.if-most-at.false)) c.take_message-t.ensures.1 (rw c.take_message-t.ensures.0 at d.puts) (rw c.take_message-t.ensures.0 at d.few) (rw c.take_message-t.ensures.0 at d.state),
    )

pub shape_of-out : goal.shape_of-out
shape_of-out c = let v = c.loop-position.invariant.3.puts.puts in puts_same _ _ _ _ _ v

pub returns : goal.returns
returns c =
    let a = c.args in
    record { told = told-from a.tape.now a.count a.p _ _ _ _ _ _ _ c.min-at.ensures c.loop-position.invariant.3; end = λ h. absurd (omega (arith, h, c.loop-position-test.false)) }
