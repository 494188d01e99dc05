use mathlib.Core.Path.{◌≡◌}
use Prim.Native.Nat.{◌-◌, ◌≤◌}
use Rattle.state.specs.View.{leg_count}
use Rattle.quotes.proofs.LegLaws.{Summed}
use Rattle.quotes.proofs.priced.Given as goal

abbrev pub invariant-loop-k : goal.invariant-loop-k
invariant-loop-k l = (l.k ≤ l.n) × (l.n ≡ leg_count l.words) × Summed l.national l.ask l.words l.bought l.sold l.units l.k

abbrev pub decreases-loop-k : goal.decreases-loop-k
decreases-loop-k l = l.n - l.k
