use mathlib.Core.Path.{ap, ◌∙◌}
use mir.Syntax.{w32}
use mir.Facts.{to_z-of_z}
use Rattle.rules.specs.Refusals.{good_local}
use Rattle.refusals.proofs.RowLaws.{legs_length}
use borrow.Author.Rules.{rules}
use Rattle.types.proofs.RefusalLaws.{handed_on}
use Rattle.refusals.proofs.local_row.Goals as goal

pub returns-in_err-when : goal.returns-in_err-when
returns-in_err-when c = λ longs.
    let leg = rw (c.leg_count-legs.ensures, ← legs_length c.args.words.now) at c.in_err-when.ensures.err in
    rw (handed_on _ _ c.from_residual.ensures.1, c.in_err-when.ensures.number, c.in_err-when.ensures.err, leg)

pub returns-in_err-when-2 : goal.returns-in_err-when-2
returns-in_err-when-2 c = λ longs.
    let a = c.args in
    let leg = rw (c.leg_count-legs.ensures, ← legs_length c.args.words.now) at c.in_ok-when.ensures.ok in
    let sides = rw (c.good_local-ask.ensures ∙ ap (λ z. good_local z a.q.asksize) (to_z-of_z {w = w32} {z = a.q.ask} (search rules)), c.good_local-bid.ensures ∙ ap (λ z. good_local z a.q.bidsize) (to_z-of_z {w = w32} {z = a.q.bid} (search rules))) at c.in_err-when-2.ensures.err in
    rw (leg, handed_on _ _ c.from_residual-in_err-when-2.ensures.1, c.in_err-when-2.ensures.number, c.in_err-when-2.ensures.err, sides)

pub returns : goal.returns
returns c = λ longs.
    let a = c.args in
    let leg = rw (c.leg_count-legs.ensures, ← legs_length c.args.words.now) at c.in_ok-when.ensures.ok in
    let sides = rw (c.good_local-ask.ensures ∙ ap (λ z. good_local z a.q.asksize) (to_z-of_z {w = w32} {z = a.q.ask} (search rules)), c.good_local-bid.ensures ∙ ap (λ z. good_local z a.q.bidsize) (to_z-of_z {w = w32} {z = a.q.bid} (search rules))) at c.in_ok-when-2.ensures.ok in
    rw (leg, sides, c.when-3.ensures.number, c.is_crossed.ensures)
