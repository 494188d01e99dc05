-- From the last leg on: the divisor of the legs passed.
use mathlib.Core.Path.{◌≡◌}
use Prim.Native.Nat.{◌≤◌}
use Rattle.rules.specs.Strategy.{gcd_all}
use Rattle.types.specs.View.{leg_at, from}
use Rattle.opening.proofs.strategy.gcd_all.Given as goal

abbrev pub invariant-loop-at : goal.invariant-loop-at
invariant-loop-at l = (l.at ≤ l.o.count) × (l.divisor ≡ gcd_all (from (leg_at l.o) l.at l.o.count))

abbrev pub decreases-loop-at : goal.decreases-loop-at
decreases-loop-at l = l.at
