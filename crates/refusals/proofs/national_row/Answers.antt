use mathlib.Core.Path.{ap, ◌∙◌}
use mir.Syntax.{w32}
use mir.Facts.{to_z-of_z}
use Rattle.rules.specs.Refusals.{good_national}
use Rattle.refusals.proofs.RowLaws.{legs_length}
use borrow.Author.Rules.{rules}
use Rattle.types.proofs.RefusalLaws.{handed_on}
use Rattle.refusals.proofs.national_row.Goals as goal

pub returns-in_err-when : goal.returns-in_err-when
returns-in_err-when c = λ longs.
    let leg = rw (c.leg_count-legs.ensures, ← legs_length c.args.words.now) at c.in_err-when.ensures.err in
    rw (handed_on _ _ c.from_residual.ensures.1, c.in_err-when.ensures.number, c.in_err-when.ensures.err, leg)

pub returns : goal.returns
returns c = λ longs.
    let a = c.args in
    let leg = rw (c.leg_count-legs.ensures, ← legs_length c.args.words.now) at c.in_ok-when.ensures.ok in
    rw (leg, c.when-2.ensures.number, c.good_national-ask.ensures ∙ ap good_national (to_z-of_z {w = w32} {z = a.q.ask} (search rules)), c.good_national-bid.ensures ∙ ap good_national (to_z-of_z {w = w32} {z = a.q.bid} (search rules)))
