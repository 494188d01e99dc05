use mathlib.Core.Path.{refl}
use Rattle.intake.proofs.after_cancel.Goals as goal

pub returns-then-is_pending-any_queued : goal.returns-then-is_pending-any_queued
returns-then-is_pending-any_queued c longs = rw (← c.is_pending.ensures longs, ← c.any_queued.ensures longs, c.if-is_pending-any_queued.true) refl

pub returns : goal.returns
returns c longs = rw (← c.is_pending.ensures longs, ← c.any_queued.ensures longs, c.if-is_pending-any_queued.false) refl
