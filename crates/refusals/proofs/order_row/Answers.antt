use mathlib.Core.Path.{ap, ◌∙◌}
use mir.Syntax.{w32}
use mir.Facts.{to_z-of_z}
use Rattle.rules.specs.Prices.{biased}
use Rattle.rules.specs.Refusals.{good_fields}
use borrow.Author.Rules.{rules}
use Rattle.types.proofs.RefusalLaws.{handed_on}
use Rattle.refusals.proofs.order_row.Goals as goal

pub returns-in_err-when : goal.returns-in_err-when
returns-in_err-when c = λ longs.
    let a = c.args in
    let fields = rw (c.good_fields-fields.ensures ∙ ap (good_fields a.o.side a.o.id a.o.participant a.o.units) (to_z-of_z {w = w32} {z = a.o.price} (search rules)), c.good_account-account.ensures) at c.in_err-when.ensures.err in
    rw (handed_on _ _ c.from_residual.ensures.1, c.in_err-when.ensures.number, c.in_err-when.ensures.err, fields)

pub returns-in_err-when-2 : goal.returns-in_err-when-2
returns-in_err-when-2 c = λ longs.
    let a = c.args in
    let fields = rw (c.good_fields-fields.ensures ∙ ap (good_fields a.o.side a.o.id a.o.participant a.o.units) (to_z-of_z {w = w32} {z = a.o.price} (search rules)), c.good_account-account.ensures) at c.in_ok-when.ensures.ok in
    let taken = rw (c.is_open.ensures longs) at c.in_err-when-2.ensures.err in
    rw (fields, handed_on _ _ c.from_residual-in_err-when-2.ensures.1, c.in_err-when-2.ensures.number, c.in_err-when-2.ensures.err, taken)

pub returns-in_err-when-3 : goal.returns-in_err-when-3
returns-in_err-when-3 c = λ longs.
    let a = c.args in
    let fields = rw (c.good_fields-fields.ensures ∙ ap (good_fields a.o.side a.o.id a.o.participant a.o.units) (to_z-of_z {w = w32} {z = a.o.price} (search rules)), c.good_account-account.ensures) at c.in_ok-when.ensures.ok in
    let taken = rw (c.is_open.ensures longs) at c.in_ok-when-2.ensures.ok in
    let orders = rw ((c.open_counts.ensures longs).0) at c.in_err-when-3.ensures.err in
    rw (fields, taken, handed_on _ _ c.from_residual-in_err-when-3.ensures.1, c.in_err-when-3.ensures.number, c.in_err-when-3.ensures.err, orders)

pub returns : goal.returns
returns c = λ longs.
    let a = c.args in
    let fields = rw (c.good_fields-fields.ensures ∙ ap (good_fields a.o.side a.o.id a.o.participant a.o.units) (to_z-of_z {w = w32} {z = a.o.price} (search rules)), c.good_account-account.ensures) at c.in_ok-when.ensures.ok in
    let taken = rw (c.is_open.ensures longs) at c.in_ok-when-2.ensures.ok in
    let orders = rw ((c.open_counts.ensures longs).0) at c.in_ok-when-3.ensures.ok in
    rw (fields, taken, orders, c.when-4.ensures.number, c.filtered-far.ensures longs, c.biased.ensures ∙ ap biased (to_z-of_z {w = w32} {z = a.o.price} (search rules)))
