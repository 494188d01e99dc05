use mathlib.Core.Path.{◌≡◌}
use Prim.Native.Nat.{◌-◌, ◌≤◌}
use Rattle.state.specs.View.{leg_count}
use Rattle.legprices.proofs.RangeLaws.{Filling}
use Rattle.legprices.proofs.quoted.ranges.Given as goal

abbrev pub invariant-loop-k : goal.invariant-loop-k
invariant-loop-k l = (l.k ≤ l.n) × (l.n ≡ leg_count l.words) × Filling l.words l.buy l.taken l.r l.k

abbrev pub decreases-loop-k : goal.decreases-loop-k
decreases-loop-k l = l.n - l.k
