use Prim.Native.Nat.{◌+◌}
use native.Mathlib.Omega.{arith}
use Rattle.state.specs.Layout as L
use Rattle.book.proofs.PassLaws.{passed_none, passed-one}
use borrow.Author.Rules.{rules}
use Rattle.book.proofs.changes.spend.Goals as goal

pub loop-k-init : goal.loop-k-init
loop-k-init c = (omega arith, c.open_count-m.ensures, passed_none _ _ _ (search rules))

pub loop-k-preserved : goal.loop-k-preserved
loop-k-preserved c =
    let v = c.loop-k.invariant in
    let k = c.loop-k.k in
    let x = c.units_after in
    (omega arith, v.1, passed-one L.units _ _ c.loop-k.words k x.result (omega arith) (omega arith) v.2 (rw (← v.2.kept.below (L.ids + k) (omega arith), ← v.2.ahead k (omega arith)) x.ensures))

pub returns : goal.returns
returns c = let v = c.loop-k.invariant in (v.2.kept, λ i h. v.2.done i (omega arith))
