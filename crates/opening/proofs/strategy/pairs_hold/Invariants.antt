-- The pairs passed all hold, or the answer is already no.
use mathlib.Core.Path.{◌≡◌}
use mathlib.Core.Bool.{◌&&◌}
use Prim.Native.Nat.{◌-◌, ◌≤◌}
use Rattle.rules.specs.Strategy.{all_pairs}
use Rattle.types.specs.View.{leg_at, from}
use Rattle.opening.specs.Asked.{PairMarked}
use Rattle.opening.proofs.strategy.pairs_hold.Given as goal

abbrev pub invariant-loop-at : goal.invariant-loop-at
invariant-loop-at l = (l.at ≤ l.count) × PairMarked (λ b q. (b && all_pairs q (from (leg_at l.o) l.at l.count)) ≡ all_pairs q (from (leg_at l.o) 0 l.count)) l.all

abbrev pub decreases-loop-at : goal.decreases-loop-at
decreases-loop-at l = l.count - l.at
