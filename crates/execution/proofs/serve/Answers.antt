use mathlib.Core.Path.{◌≡◌}
use Prim.Native.Nat.{◌+◌, min}
use native.Mathlib.Omega.{arith}
use borrow.Author.Rules.{rules}
use lib.ListN.{length, take}
use Rattle.rules.specs.Execution.{serve}
use Rattle.state.specs.View.{state_of}
use Rattle.execution.specs.Slots.{mode_of}
use Rattle.execution.proofs.GoesLaws.{goes_none, goes_as, goes_then}
use Rattle.execution.proofs.ServeLaws.{serve_none, serve_more, take_least}
use Rattle.execution.proofs.serve.Goals as goal

pub loop-i-init : goal.loop-i-init
loop-i-init c =
    (omega arith, (omega arith, omega arith), goes_none c.args.longs.now c.args.words.now _ _ _ (serve_none (mode_of c.args.mode) _))

pub loop-i-preserved : goal.loop-i-preserved
loop-i-preserved c =
    let a = c.args in
    let m = mode_of a.mode in
    let i = c.loop-i.i in (
      omega arith,
      search (rules, c.loop-i.invariant.1),
      goes_as (serve m (take (i + 1) a.ids.now)) (serve_more m a.ids.now i (state_of a.longs.now a.words.now) (omega arith)) (goes_then c.loop-i.invariant.2 (rw c.from-m.ensures at c.execute_id-w.ensures)),
    )

pub returns : goal.returns
returns c =
    let a = c.args in
    let e = c.min-end.ensures in
    let z : c.loop-i.i ≡ min a.n (length a.ids.now) = omega (arith, e) in
    rw (take_least c.loop-i.i a.n a.ids.now z) at c.loop-i.invariant.2
