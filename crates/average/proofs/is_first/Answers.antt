use mathlib.Core.Path.{◌≡◌, ap, sym, ◌∙◌}
use mathlib.Core.Bool.{false, not}
use Prim.Native.Nat.{ℕ, ◌-◌, ◌<◌}
use Rattle.types.specs.View.{from}
use Rattle.records.specs.Records.{record_at}
use Rattle.average.specs.Sums.{named}
use Rattle.average.proofs.SumLaws.{named_none, named_end, named_here}
use native.Mathlib.Omega.{arith}
use Rattle.average.proofs.is_first.Goals as goal

pub loop-i-init : goal.loop-i-init
loop-i-init c = let a = c.args in (omega arith, named_end a.list.now c.order_at-order.result a.j)

pub returns-then-order_at-order : goal.returns-then-order_at-order
returns-then-order_at-order c =
    let a = c.args in
    let t = c.loop-i-test.true in
    let L = c.loop-i in
    let e = c.order_at-order.ensures in
    sym (ap not (named_here a.list.now (record_at a.list.now a.j).order a.j (L.i - 1) (omega (arith, t, L.invariant.0)) (sym c.order_at.ensures ∙ c.if-order_at-order.true ∙ e)))

pub loop-i-preserved : goal.loop-i-preserved
loop-i-preserved c =
    let a = c.args in
    let L = c.loop-i in
    let t : 0 < L.i = omega (arith, c.loop-i-test.true) in
    (omega (arith, L.invariant.0), named_none a.list.now _ a.j L.i t L.invariant.0 (λ e. c.if-order_at-order.false (c.order_at.ensures ∙ e)) L.invariant.1)

pub returns : goal.returns
returns c =
    let a = c.args in
    let L = c.loop-i in
    let z : L.i ≡ 0 = omega (arith, c.loop-i-test.false) in
    let v : named c.order_at-order.result (from (record_at a.list.now) 0 a.j) ≡ false = rw z at L.invariant.1 in
    sym (ap not (ap (λ (i : ℕ). named i (from (record_at a.list.now) 0 a.j)) (sym c.order_at-order.ensures) ∙ v))
