use mathlib.Core.Path.{◌≡◌}
use Prim.Native.Nat.{◌-◌, ◌≤◌}
use Rattle.rules.specs.Filter.{smallest, smallest_from}
use Rattle.state.specs.View.{leg_count, legs_of, market_of}
use Rattle.quotes.specs.Uses.{leg_price_of}
use Rattle.quotes.proofs.LegLaws.{legs_from, quotes_from}
use Rattle.quotes.proofs.smallest.Given as goal

abbrev pub invariant-loop-k : goal.invariant-loop-k
invariant-loop-k l =
    (1 ≤ l.k) × (l.k ≤ l.n) × (l.n ≡ leg_count l.words) × (smallest_from (leg_price_of l.p) l.ask (legs_from l.words l.k) (quotes_from l.words l.k) ≡ smallest l.ask (legs_of l.words) (market_of l.words))

abbrev pub decreases-loop-k : goal.decreases-loop-k
decreases-loop-k l = l.n - l.k
