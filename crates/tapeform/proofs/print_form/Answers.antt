use mathlib.Core.Path.{◌≡◌, refl, sym, ap, ◌∙◌}
use mathlib.Core.List.{List}
use Prim.Native.Nat.{ℕ, ◌<◌}
use native.Mathlib.Omega.{arith}
use lib.ListN.{length}
use lib.Seq.{length-take-le}
use Rattle.rules.specs.Print.{refused_line}
use Rattle.types.specs.Refusals.{number_of}
use Rattle.types.proofs.RefusalLaws.{is_some_number}
use Rattle.text.specs.Text.{line_text}
use Rattle.output.specs.Counted.{counted}
use Rattle.form.proofs.RecordLaws.{bytes_of}
use Rattle.form.proofs.FormLaws.{refused-said}
use Rattle.tapeform.proofs.TextLaws.{refused_text, form-room, form-handed, line_handed}
use Rattle.tapeform.proofs.print_form.Goals as goal

pub slice_bounds-hand_over-end : goal.slice_bounds-hand_over-end
slice_bounds-hand_over-end c = let w = c.in-Ok.ensures in form-room _ _ _ _ w.0 w.1 refl

pub slice_bounds-hand_over-end-in-Ok : goal.slice_bounds-hand_over-end-in-Ok
slice_bounds-hand_over-end-in-Ok c = let w = c.in-Ok.ensures in sym (length-take-le _ _ (form-room _ _ _ _ w.0 w.1 refl))

pub returns-in-Ok : goal.returns-in-Ok
returns-in-Ok c = let w = c.in-Ok.ensures in form-handed _ _ _ _ w.0 w.1 refl _ c.hand_over-h.ensures

pub slice_bounds-hand_over-end-in-Err : goal.slice_bounds-hand_over-end-in-Err
slice_bounds-hand_over-end-in-Err c = let p = c.put_refused-n.ensures in sym (length-take-le _ _ (omega (arith, p.2, p.3)))

pub returns-in-Err : goal.returns-in-Err
returns-in-Err c =
    let a = c.args in
    let t = a.tape.now in
    let w = c.in-Err.ensures in
    let q : 0 < number_of c.in-Err.row = is_some_number c.in-Err.row in
    let B = bytes_of t (λ i l. omega (arith, c.shared_slice_known-1.given i)) in
    let d = refused-said t a.page.now _ w.0 B c.requires (λ z. omega (arith, q, z)) in
    let e : c.from.result ≡ number_of c.in-Err.row = c.from.ensures in
    let p = rw e at c.put_refused-n.ensures in
    line_handed (line_text (refused_line 0 (number_of c.in-Err.row))) _ _ _ p.0 p.2 p.3 c.hand_over-h-in-Err.ensures
    ∙ ap (λ (l : List ℕ). counted (length l)) (refused_text t _ d.0 d.1)
