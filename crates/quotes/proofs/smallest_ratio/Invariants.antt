use mathlib.Core.Path.{◌≡◌}
use Prim.Native.Nat.{◌-◌, ◌≤◌}
use Rattle.rules.specs.Strategy.{most_ratio}
use Rattle.rules.specs.Filter.{smallest_ratio, smallest_ratio_from}
use Rattle.state.specs.View.{leg_count, legs_of}
use Rattle.quotes.proofs.LegLaws.{legs_from}
use Rattle.quotes.proofs.smallest_ratio.Given as goal

abbrev pub invariant-loop-k : goal.invariant-loop-k
invariant-loop-k l = (1 ≤ l.k) × (l.k ≤ l.n) × (l.n ≡ leg_count l.words) × (l.t ≤ most_ratio) × (smallest_ratio_from l.t (legs_from l.words l.k) ≡ smallest_ratio (legs_of l.words))

abbrev pub decreases-loop-k : goal.decreases-loop-k
decreases-loop-k l = l.n - l.k
