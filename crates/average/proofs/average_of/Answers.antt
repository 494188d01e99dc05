use mathlib.Core.Path.{◌≡◌, ◌∙◌}
use Prim.Native.Nat.{◌<◌}
use mir.Val.{to_z, of_z}
use mir.Syntax.{w64}
use native.Mathlib.Omega.{arith}
use Rattle.average.proofs.ToldLaws.{told_none, told-exact}
use borrow.Author.Rules.{rules}
use Rattle.average.proofs.average_of.Goals as goal

pub returns-then-units-eq0 : goal.returns-then-units-eq0
returns-then-units-eq0 c =
    let a = c.args in
    told_none a.list.now a.order a.n _ _ c.min-count.ensures c.units_of-units.ensures.0 c.if-units-eq0.true

pub returns : goal.returns
returns c =
    let a = c.args in
    let u = c.units_of-units in
    let p : 0 < u.result = omega (arith, c.if-units-eq0.false) in
    let z : to_z w64 (of_z w64 c.cents.result) ≡ c.cents.result = search rules in
    told-exact a.list.now a.order a.n _ _ c.min-count.ensures u.ensures.0 _ c.sum_of-total.ensures p _ (z ∙ c.cents.ensures)
