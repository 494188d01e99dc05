use mathlib.Core.Path.{◌≡◌}
use Prim.Native.Nat.{◌-◌, ◌≤◌}
use Rattle.rules.specs.Filter.{all_national}
use Rattle.state.specs.View.{leg_count, market_of}
use Rattle.quotes.proofs.LegLaws.{quotes_from}
use Rattle.quotes.proofs.all_national.Given as goal

abbrev pub invariant-loop-k : goal.invariant-loop-k
invariant-loop-k l = (l.k ≤ l.n) × (l.n ≡ leg_count l.words) × (all_national (quotes_from l.words l.k) ≡ all_national (market_of l.words))

abbrev pub decreases-loop-k : goal.decreases-loop-k
decreases-loop-k l = l.n - l.k
