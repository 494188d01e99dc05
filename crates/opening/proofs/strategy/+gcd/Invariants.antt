-- Euclid's rule: the second number falls, and a step does not change the divisor.
-- Euclid's rule: the second number falls.
use Rattle.opening.proofs.strategy.+gcd.Given as goal

abbrev pub decreases-gcd : goal.decreases-gcd
decreases-gcd l = l.b
