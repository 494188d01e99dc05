use mathlib.Core.Path.{refl, sym, ◌∙◌}
use Rattle.rules.specs.Refusals.{every_row, kind_row, refusal}
use Rattle.types.specs.View.{body_of, message_of}
use Rattle.types.proofs.RefusalLaws.{handed_on, is_some_number}
use Rattle.state.specs.View.{state_of}
use Rattle.refusals.proofs.RowLaws.{first_found, first_none}
use Rattle.refusals.proofs.refusal.Goals as goal

pub returns-in_err-every_row : goal.returns-in_err-every_row
unfolding refusal
returns-in_err-every_row c =
    let a = c.args in
    let s = state_of a.longs.now a.words.now in
    let e = c.in_err-every_row.ensures in
    handed_on _ _ c.from_residual.ensures.1 ∙ e ∙ sym (first_found (every_row s (message_of a.m) a.room) (kind_row s (body_of a.m.body)) (rw e at (is_some_number c.in_err-every_row.field-0.0)))

pub returns : goal.returns
unfolding refusal
returns c =
    let a = c.args in
    let s = state_of a.longs.now a.words.now in
    c.kind_row.ensures a.longs.now ∙ sym (first_none (every_row s (message_of a.m) a.room) (kind_row s (body_of a.m.body)) refl (sym c.in_ok-every_row.ensures))
