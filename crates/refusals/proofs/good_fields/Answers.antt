use mathlib.Core.Path.{ap, ◌∙◌}
use mir.Syntax.{w32}
use mir.Facts.{to_z-of_z}
use Rattle.rules.specs.Prices.{is_limit}
use borrow.Author.Rules.{rules}
use Rattle.refusals.proofs.good_fields.Goals as goal

pub returns : goal.returns
returns c = rw (c.is_limit-limit.ensures ∙ ap is_limit (to_z-of_z {w = w32} {z = c.args.cents} (search rules)))
