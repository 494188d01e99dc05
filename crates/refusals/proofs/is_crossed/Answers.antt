use mathlib.Core.Path.{ap, ◌∙◌}
use mir.Syntax.{w32}
use mir.Facts.{to_z-of_z}
use Rattle.rules.specs.Refusals.{natural}
use borrow.Author.Rules.{rules}
use Rattle.refusals.proofs.is_crossed.Goals as goal

pub returns : goal.returns
returns c =
    let q = c.args.q in
    rw (c.natural-bid.ensures ∙ ap natural (to_z-of_z {w = w32} {z = q.bid} (search rules)), c.natural-ask.ensures ∙ ap natural (to_z-of_z {w = w32} {z = q.ask} (search rules)))
