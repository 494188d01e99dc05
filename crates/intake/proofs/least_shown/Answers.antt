use native.Mathlib.Omega.{arith}
use borrow.Author.Tests.{eq-eqb, ne_eqb}
use Rattle.intake.proofs.least_shown.Goals as goal

pub returns-then-d-price : goal.returns-then-d-price
returns-then-d-price c = rw (ne_eqb _ _ c.if-d-price.true) (omega arith)

pub returns : goal.returns
returns c = rw (eq-eqb _ _ c.if-d-price.false) c.min.ensures
