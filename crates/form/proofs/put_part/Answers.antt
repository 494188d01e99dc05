use mathlib.Core.Path.{refl, sym, ◌∙◌}
use native.Mathlib.Omega.{arith}
use lib.ListN.{get_or}
use Rattle.form.proofs.WriteLaws.{values-size, values-start, values-step, values-end}
use borrow.Author.Rules.{rules}
use Rattle.form.proofs.put_part.Goals as goal

pub loop-i-init : goal.loop-i-init
loop-i-init c =
    let a = c.args in
    (search rules, search rules, search rules, search rules, values-start (λ k. get_or a.tape.now k 0) a.from a.size a.out.now a.at)

pub loop-i-preserved : goal.loop-i-preserved
loop-i-preserved c =
    let L = c.loop-i in
    let a = c.args in
    let v = L.invariant in
    (omega arith, v.1, v.2, search rules, values-step (λ k. get_or a.tape.now k 0) a.from a.size L.out a.at L.i _ (omega arith) refl ∙ v.4)

pub returns : goal.returns
returns c =
    let L = c.loop-i in
    let a = c.args in
    let v = L.invariant in
    let e = values-size (λ k. get_or a.tape.now k 0) a.from a.size in
    (record { end = omega arith; holds = sym (values-end (λ k. get_or a.tape.now k 0) a.from a.size L.out a.at L.i (omega arith)) ∙ v.4 }, v.3, refl)
