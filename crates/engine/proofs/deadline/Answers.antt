use mathlib.Core.Path.{refl, sym, ◌∙◌}
use Rattle.engine.proofs.StepLaws.{deadline_words}
use Rattle.engine.proofs.deadline.Goals as goal

pub returns-then-is_set : goal.returns-then-is_set
returns-then-is_set c = let a = c.args in rw (deadline_words a.longs.now a.words.now, sym c.is_set.ensures ∙ c.if-is_set.true) refl

pub returns : goal.returns
returns c = let a = c.args in rw (deadline_words a.longs.now a.words.now, sym c.is_set.ensures ∙ c.if-is_set.false) refl
