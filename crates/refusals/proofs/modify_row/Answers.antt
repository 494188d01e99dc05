use mathlib.Core.Path.{ap, ◌∙◌}
use mir.Syntax.{w32}
use mir.Facts.{to_z-of_z}
use Rattle.rules.specs.Refusals.{good_fields}
use borrow.Author.Rules.{rules}
use Rattle.types.proofs.RefusalLaws.{handed_on}
use Rattle.refusals.proofs.modify_row.Goals as goal

pub returns-in_err-when : goal.returns-in_err-when
returns-in_err-when c = λ longs.
    let pending = rw (c.is_pending.ensures longs) at c.in_err-when.ensures.err in
    rw (handed_on _ _ c.from_residual.ensures.1, c.in_err-when.ensures.number, c.in_err-when.ensures.err, pending)

pub returns-in_err-when-2 : goal.returns-in_err-when-2
returns-in_err-when-2 c = λ longs.
    let a = c.args in
    let pending = rw (c.is_pending.ensures longs) at c.in_ok-when.ensures.ok in
    let fields = rw (c.good_fields-fields.ensures ∙ ap (good_fields a.t.side a.t.id a.t.participant a.t.units) (to_z-of_z {w = w32} {z = a.t.price} (search rules))) at c.in_err-when-2.ensures.err in
    rw (pending, handed_on _ _ c.from_residual-in_err-when-2.ensures.1, c.in_err-when-2.ensures.number, c.in_err-when-2.ensures.err, fields)

pub returns : goal.returns
returns c = λ longs.
    let a = c.args in
    let pending = rw (c.is_pending.ensures longs) at c.in_ok-when.ensures.ok in
    let fields = rw (c.good_fields-fields.ensures ∙ ap (good_fields a.t.side a.t.id a.t.participant a.t.units) (to_z-of_z {w = w32} {z = a.t.price} (search rules))) at c.in_ok-when-2.ensures.ok in
    rw (pending, fields, c.when-3.ensures.number, (c.standing_of-known.ensures longs).1)
