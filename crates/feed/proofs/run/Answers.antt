use mathlib.Core.Path.{refl}
use Prim.Native.Nat.{◌*◌}
use native.Mathlib.Omega.{arith}
use Rattle.rules.specs.Tape.{message_bytes}
use Rattle.tape.proofs.PartLaws.{part_at}
use Rattle.text.proofs.PutsLaws.{puts_same}
use Rattle.feed.proofs.RunLaws.{told-start, told-next, told-from}
use borrow.Author.Rules.{rules}
use Rattle.feed.proofs.run.Goals as goal

pub loop-position-init : goal.loop-position-init
loop-position-init c = (refl, refl, refl, told-start _ _ _ _ _ _ (let e = c.min-at.ensures in omega (arith, e)))

pub shape_of-out-then-most-at : goal.shape_of-out-then-most-at
shape_of-out-then-most-at c = let v = c.loop-position.invariant.3.puts.puts in puts_same _ _ _ _ _ v

pub returns-then-most-at : goal.returns-then-most-at
returns-then-most-at c =
    let a = c.args in
    record { told = told-from a.input.now a.p _ _ _ _ _ _ _ c.min-at.ensures c.loop-position.invariant.3; end = λ h. c.if-most-at.true }

pub loop-position-preserved : goal.loop-position-preserved
loop-position-preserved c =
    let v = c.loop-position.invariant in
    let d = c.tell-at.ensures in
    let input = c.args.input.now in
    let start = message_bytes * c.loop-position.position in
    let h = c.loop-position-test.true in
    let part = part_at input start start (omega (arith, h)) in
    (search rules, search rules, search rules, told-next _ _ _ _ _ _ _ _ v.3 _ _ _ h (omega (arith, c.if-most-at.false)) (rw part at d.puts) (rw part at d.few) (rw part at d.state))

pub shape_of-out : goal.shape_of-out
shape_of-out c = let v = c.loop-position.invariant.3.puts.puts in puts_same _ _ _ _ _ v

pub returns : goal.returns
returns c =
    let a = c.args in
    record { told = told-from a.input.now a.p _ _ _ _ _ _ _ c.min-at.ensures c.loop-position.invariant.3; end = λ h. absurd (omega (arith, h, c.loop-position-test.false)) }
