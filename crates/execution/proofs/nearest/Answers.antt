use mathlib.Core.Path.{◌≡◌, refl, ap, sym, ◌∙◌}
use Prim.Native.Nat.{ℕ, min}
use native.Mathlib.Omega.{arith}
use borrow.Author.Rules.{rules}
use lib.ListN.{get_or}
use Rattle.execution.specs.Walk.{nearer}
use Rattle.execution.proofs.NextLaws.{near-least}
use Rattle.execution.proofs.SlotLaws.{least_step, least-end, under-step, under-end}
use Rattle.execution.proofs.nearest.Goals as goal

pub loop-i-init : goal.loop-i-init
loop-i-init c = (search rules, search rules, refl, λ s. s)

pub loop-i-preserved : goal.loop-i-preserved
loop-i-preserved c =
    let a = c.args in
    let i = c.loop-i.i in
    let ps = a.slots.now.tiers in
    let us = a.slots.now.units in
    let e = c.open_tier.ensures in
    let z : c.min-m.result ≡ nearer a.b c.loop-i.m (get_or ps i 0) (get_or us i 0) =
    c.min-m.ensures ∙ ap (λ (x : ℕ). min x c.loop-i.m) e.0 ∙ near-least a.b c.loop-i.m (get_or ps i 0) (get_or us i 0) c.loop-i.invariant.1 in (
      omega arith,
      omega (arith, c.min-m.ensures, c.loop-i.invariant.1),
      rw z (least_step a.slots.now.count i ps us (omega arith) (omega arith) (omega arith) a.b c.loop-i.m ∙ c.loop-i.invariant.2),
      under-step a.slots.now.count i 4294967296 ps (omega arith) (omega arith) e.1 c.loop-i.invariant.3,
    )

pub returns : goal.returns
returns c =
    let L = c.loop-i in
    let a = c.args in
    (sym (least-end a.slots.now.count L.i (omega arith) a.b L.m a.slots.now.tiers _) ∙ L.invariant.2, under-end a.slots.now.count L.i (omega arith) 4294967296 a.slots.now.tiers L.invariant.3)
