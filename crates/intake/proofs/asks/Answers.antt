use mathlib.Core.Path.{refl}
use Rattle.intake.proofs.asks.Goals as goal

pub returns-then-wish : goal.returns-then-wish
returns-then-wish c = λ longs o eb ep eu. rw c.if-wish.true (c.is_eligible.ensures longs o eb ep eu)

pub returns : goal.returns
returns c = λ longs o eb ep eu. rw c.if-wish.false refl
