use mathlib.Core.Path.{◌≡◌, ap, ap₂, ◌∙◌}
use mathlib.Core.List.{List}
use Prim.Native.Nat.{ℕ, ◌+◌, ◌-◌, ◌*◌}
use native.Mathlib.Omega.{arith}
use lib.ListN.{length, get_or, drop}
use Rattle.rules.specs.Tape.{message_bytes}
use Rattle.text.proofs.WroteLaws.{same}
use Rattle.form.specs.Rows.{lessers}
use Rattle.form.proofs.WriteLaws.{messages_size, messages_step}
use Rattle.form.proofs.RecordLaws.{bytes_of, row_within, record_bytes}
use Rattle.form.proofs.put_messages.Goals as goal

pub put_message-end-requires : goal.put_message-end-requires
put_message-end-requires c =
    let a = c.args in
    let kind = get_or a.tape.now (a.from + c.loop-i.i * 36) 0 in
    let rows = ap length c.requires.2 in
    (omega arith, omega arith, omega (arith, rows, row_within kind _ c.row_at-row.ensures))

pub loop-i-preserved : goal.loop-i-preserved
loop-i-preserved c =
    let L = c.loop-i in
    let a = c.args in
    let t = a.tape.now in
    let next = a.from + 36 * L.i in
    let w = c.put_message-end.ensures in
    let e = w.2 in
    let z : a.from + L.i * 36 ≡ next = omega arith in
    let n : a.count - (L.i + 1) ≡ a.count - L.i - 1 = omega arith in
    let y : a.from + 36 * (L.i + 1) ≡ next + message_bytes = omega arith in
    let B = bytes_of t (λ i l. (c.type_inv.tape i).fits) in
    let record_is = ap₂ (λ (rs : List ℕ) (row : ℕ). lessers 36 (a.from + L.i * 36) t row rs) c.requires.2 c.row_at-row.ensures ∙ record_bytes t (a.from + L.i * 36) B in (
      omega arith,
      omega arith,
      w.1 ∙ L.invariant.2,
      rw (n, y) (messages_step (a.count - L.i) t L.out _ L.end _ next (omega arith) (rw z at (same record_is w.0)) ∙ L.invariant.3),
    )

pub returns : goal.returns
returns c =
    let L = c.loop-i in
    let a = c.args in
    let z : a.count - L.i ≡ 0 = omega arith in
    let e = messages_size a.count (drop a.from a.tape.now) in
    (record { end = omega arith; holds = rw z at L.invariant.3 }, L.invariant.2, omega arith)
