use mathlib.Core.Path.{◌∙◌}
use borrow.Author.Tests.{eq-eqb, ne_eqb}
use Rattle.form.proofs.full_fourth.Goals as goal

pub returns-then-used : goal.returns-then-used
returns-then-used c = rw (eq-eqb _ _ c.if-kind-eq-ORDER.true, c.if-used.true)

pub returns-else-used : goal.returns-else-used
returns-else-used c = rw (eq-eqb _ _ c.if-kind-eq-ORDER.true, c.if-used.false)

pub returns : goal.returns
returns c = c.full.ensures ∙ rw (ne_eqb _ _ c.if-kind-eq-ORDER.false)
