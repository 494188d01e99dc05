-- The legs passed all keep it, or the answer is already no.
use mathlib.Core.Path.{◌≡◌}
use mathlib.Core.Bool.{◌&&◌}
use Prim.Native.Nat.{◌-◌, ◌≤◌}
use Rattle.rules.specs.Basics.{all}
use Rattle.types.specs.View.{leg_at, from}
use Rattle.opening.specs.Asked.{LegMarked}
use Rattle.opening.proofs.strategy.all_keep.Given as goal

abbrev pub invariant-loop-at : goal.invariant-loop-at
invariant-loop-at l = (l.at ≤ l.count) × LegMarked (λ b p. (b && all p (from (leg_at l.o) l.at l.count)) ≡ all p (from (leg_at l.o) 0 l.count)) l.all

abbrev pub decreases-loop-at : goal.decreases-loop-at
decreases-loop-at l = l.count - l.at
