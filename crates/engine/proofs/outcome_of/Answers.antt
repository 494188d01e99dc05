use mathlib.Core.Path.{refl}
use Rattle.engine.proofs.outcome_of.Goals as goal

pub returns-in-GoesOn : goal.returns-in-GoesOn
returns-in-GoesOn c = rw c.in-GoesOn.is (c.plain.ensures c.args.longs.now)

pub returns-in-Begins : goal.returns-in-Begins
returns-in-Begins c = rw (c.in-Begins.is, c.deadline.ensures) refl

pub returns-in-Joins : goal.returns-in-Joins
returns-in-Joins c = rw (c.in-Joins.is, c.queue_units.ensures c.args.longs.now) refl
