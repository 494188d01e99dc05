use native.Mathlib.Omega.{arith}
use Rattle.execution.proofs.offers.key.Goals as goal

pub returns-then-buy : goal.returns-then-buy
returns-then-buy c = (rw c.if-buy.true c.min-p.ensures, omega (arith, c.min-p.ensures))

pub returns-else-buy : goal.returns-else-buy
returns-else-buy c = (rw c.if-buy.false (omega (arith, c.min-p.ensures)), omega arith)
