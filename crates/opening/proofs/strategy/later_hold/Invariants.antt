-- The later legs passed all hold, or the answer is already no.
use mathlib.Core.Path.{◌≡◌}
use mathlib.Core.Bool.{◌&&◌}
use Prim.Native.Nat.{◌+◌, ◌-◌, ◌≤◌}
use Rattle.rules.specs.Basics.{all}
use Rattle.types.specs.View.{leg_at, from}
use Rattle.opening.specs.Asked.{PairMarked}
use Rattle.opening.proofs.strategy.later_hold.Given as goal

abbrev pub invariant-loop-at : goal.invariant-loop-at
invariant-loop-at l =
    (l.at ≤ l.count) × PairMarked (λ b q. (b && all (q (leg_at l.o l.k)) (from (leg_at l.o) l.at l.count)) ≡ all (q (leg_at l.o l.k)) (from (leg_at l.o) (l.k + 1) l.count)) l.all

abbrev pub decreases-loop-at : goal.decreases-loop-at
decreases-loop-at l = l.count - l.at
