use mathlib.Core.Path.{refl, sym, ap, subst}
use native.Mathlib.Omega.{arith}
use Rattle.rules.specs.Tape.{Header}
use Rattle.rules.specs.Spelling.{Accepted}
use Rattle.text.proofs.WroteLaws.{same}
use Rattle.form.specs.Writes.{size_in, form_in, Holds}
use Rattle.form.proofs.WriteLaws.{rows_whole}
use Rattle.form.proofs.RecordLaws.{bytes_of}
use Rattle.form.proofs.FormLaws.{tape_holds, turned-back, is_short, is_done}
use Rattle.form.proofs.write.Goals as goal

pub returns-in_err-refusal : goal.returns-in_err-refusal
returns-in_err-refusal c =
    let a = c.args in
    turned-back a.tape.now a.out.now _ _ c.from_residual.ensures.1 c.in_err-refusal.ensures

pub returns-then-out-form_size : goal.returns-then-out-form_size
returns-then-out-form_size c =
    let a = c.args in
    let t = a.tape.now in
    let z = sym c.in_ok-refusal.ensures in
    let A : Accepted t = record { bytes = bytes_of t (λ i l. (c.type_inv.tape i).fits); passed = z } in
    let e = c.header_of-h.ensures in
    is_short t a.out.now A (omega (arith, c.form_size.ensures, c.if-out-form_size.true, ap size_in e))

pub put_form-requires : goal.put_form-requires
put_form-requires c =
    let t = c.args.tape.now in
    let z = sym c.in_ok-refusal.ensures in
    (omega (arith, c.form_size.ensures, c.if-out-form_size.false), subst (λ (h : Header). Holds h t) (sym c.header_of-h.ensures) (tape_holds t z), rows_whole _ _ _ refl c.put_rows.ensures.0)

pub returns : goal.returns
returns c =
    let a = c.args in
    let t = a.tape.now in
    let z = sym c.in_ok-refusal.ensures in
    let A : Accepted t = record { bytes = bytes_of t (λ i l. (c.type_inv.tape i).fits); passed = z } in
    let e = c.header_of-h.ensures in
    let w = c.put_form.ensures in
    is_done t a.out.now _ _ A (omega (arith, c.form_size.ensures, c.if-out-form_size.false, ap size_in e)) (omega (arith, w.2, ap size_in e)) (same (ap (λ (h : Header). form_in h t) e) w.0)
