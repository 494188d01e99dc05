use mathlib.Core.Path.{◌≡◌, refl, sym, ◌∙◌}
use Prim.Native.Nat.{◌+◌, min}
use native.Mathlib.Omega.{arith}
use lib.ListN.{get_or}
use Rattle.text.proofs.WroteLaws.{same}
use Rattle.form.specs.Rows.{lessers}
use Rattle.form.proofs.WriteLaws.{values-size, values-start, values-step, values-end, sets_whole, array_bytes}
use borrow.Author.Rules.{rules}
use Rattle.form.proofs.put_message.Goals as goal

pub loop-i-init : goal.loop-i-init
loop-i-init c =
    let a = c.args in
    let l = values-size (λ k. min (get_or a.tape.now (a.from + k) 0) (get_or a.rows.now (a.row + k) 0)) 0 36 in
    (search rules, search rules, search rules, search rules, refl, values-start (λ k. min (get_or a.tape.now (a.from + k) 0) (get_or a.rows.now (a.row + k) 0)) 0 36 _ 0 ∙ sets_whole (lessers 36 a.from a.tape.now a.row a.rows.now) _ (sym l))

pub loop-i-preserved : goal.loop-i-preserved
loop-i-preserved c =
    let L = c.loop-i in
    let a = c.args in
    let v = L.invariant in
    let z : 0 + L.i ≡ L.i = omega arith in
    let s = values-step (λ k. min (get_or a.tape.now (a.from + k) 0) (get_or a.rows.now (a.row + k) 0)) 0 36 L.bytes 0 L.i c.min.result (omega arith) (rw z c.min.ensures) in
    (omega arith, v.1, v.2, v.3, search rules, (rw z at s) ∙ rw z at v.5)

pub returns : goal.returns
returns c =
    let P = c.put_part.ensures in
    let L = c.loop-i in
    let a = c.args in
    let v = L.invariant in
    let e = values-end (λ k. min (get_or a.tape.now (a.from + k) 0) (get_or a.rows.now (a.row + k) 0)) 0 36 L.bytes 0 L.i (omega arith) in
    (same (array_bytes L.bytes 36 v.4 ∙ sym e ∙ v.5) P.0, P.1, P.2)
