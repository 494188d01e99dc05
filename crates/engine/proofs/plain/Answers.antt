use mathlib.Core.Path.{refl}
use Rattle.engine.proofs.plain.Goals as goal

pub returns-in-Local : goal.returns-in-Local
returns-in-Local c = λ longs. rw c.in-Local.is refl

pub returns-in-National : goal.returns-in-National
returns-in-National c = λ longs. rw c.in-National.is refl

pub returns-in-Order : goal.returns-in-Order
returns-in-Order c = λ longs. rw (c.in-Order.is, c.units_of.ensures longs) refl

pub returns-in-Response : goal.returns-in-Response
returns-in-Response c = λ longs. rw c.in-Response.is refl

pub returns-in-Modify : goal.returns-in-Modify
returns-in-Modify c = λ longs. rw c.in-Modify.is refl

pub returns-in-Cancel : goal.returns-in-Cancel
returns-in-Cancel c = λ longs. rw c.in-Cancel.is refl

pub returns-in-Clock : goal.returns-in-Clock
returns-in-Clock c = λ longs. rw c.in-Clock.is refl

pub returns-in-Reduce : goal.returns-in-Reduce
returns-in-Reduce c = λ longs. rw c.in-Reduce.is refl
