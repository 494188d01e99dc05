use mathlib.Core.Path.{refl, sym, ◌∙◌}
use Rattle.engine.proofs.route.reaches.Goals as goal

pub returns-then-is_set : goal.returns-then-is_set
returns-then-is_set c = rw (sym c.is_set.ensures ∙ c.if-is_set.true, c.is_live-live.ensures, c.at_or_through.ensures) refl

pub returns-else-is_set : goal.returns-else-is_set
returns-else-is_set c = rw (sym c.is_set.ensures ∙ c.if-is_set.false, c.is_live-live.ensures, c.at_or_through-else-is_set.ensures) refl
