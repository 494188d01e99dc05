use mathlib.Core.Path.{refl}
use Rattle.book.proofs.CloseLaws.{stays}
use Rattle.book.proofs.changes.released_stage.Goals as goal

pub returns-then-stage-eq-QUEUED : goal.returns-then-stage-eq-QUEUED
returns-then-stage-eq-QUEUED c = rw c.if-stage-eq-QUEUED.true refl

pub returns-else-stage-eq-QUEUED : goal.returns-else-stage-eq-QUEUED
returns-else-stage-eq-QUEUED c = stays _ c.if-stage-eq-QUEUED.false
