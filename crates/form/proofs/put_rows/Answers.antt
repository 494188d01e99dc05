use mathlib.Core.Path.{◌≡◌, refl, ◌∙◌}
use native.Mathlib.Omega.{arith}
use Rattle.form.proofs.WriteLaws.{rows_step}
use borrow.Author.Rules.{rules}
use Rattle.form.proofs.put_rows.Goals as goal

pub loop-kind-init : goal.loop-kind-init
loop-kind-init c = (search rules, search rules, search rules, search rules, search rules, refl)

pub loop-kind-preserved : goal.loop-kind-preserved
loop-kind-preserved c =
    let L = c.loop-kind in
    let v = L.invariant in
    let k = c.put_row-end.ensures.1 in
    let e = c.put_row-end.ensures.2 in
    (omega arith, omega arith, omega arith, v.3, k ∙ v.4, rows_step L.kind L.rows _ L.end _ (omega arith) c.put_row-end.ensures.0 ∙ v.5)

pub returns : goal.returns
returns c =
    let L = c.loop-kind in
    let v = L.invariant in
    let z : L.kind ≡ 9 = omega arith in
    (record { end = omega arith; holds = rw z at v.5 }, v.4, omega arith)
