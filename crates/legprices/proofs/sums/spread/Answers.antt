use mathlib.Core.Path.{refl}
use Prim.Native.Nat.{◌-◌, ◌/◌}
use native.Mathlib.Omega.{arith}
use Rattle.legprices.specs.Sums.{stands}
use Rattle.legprices.specs.Tables.{moved}
use Rattle.legprices.proofs.TableLaws.{going-none, going-all, going-moved, moved-low}
use Rattle.legprices.proofs.sums.spread.Goals as goal

pub loop-k-init : goal.loop-k-init
loop-k-init c = (omega arith, omega arith, going-none c.args.words c.args.base c.args.bits.now (moved (stands c.args.bits.now c.args.base) c.args.a) (omega arith))

pub loop-k-preserved : goal.loop-k-preserved
loop-k-preserved c =
    let k = c.loop-k.k in
    let a = c.args in
    let g = going-moved a.bits.now a.base a.a a.words k (k - 1) _ _ _ c.loop-k.bits (omega arith) (omega arith) (omega arith) (omega arith) (omega arith)
    (λ h. refl) (λ h. absurd (omega arith)) c.merged.ensures c.loop-k.invariant.2 in
    (omega arith, omega arith, g)

pub returns : goal.returns
returns c =
    let a = c.args in
    let old = a.bits.now in
    let q = a.a / 64 in
    going-all a.words a.base old (moved (stands old a.base) a.a) q _ (omega arith) (moved-low old a.base a.a)
    (going-moved old a.base a.a a.words c.loop-k.k q a.base _ _ c.loop-k.bits (omega arith) (omega arith) (omega arith) (omega arith) (omega arith)
    (λ h. absurd (omega arith)) (λ h. refl) c.merged-2.ensures c.loop-k.invariant.2)
