use mathlib.Core.Path.{◌≡◌}
use Prim.Native.Nat.{◌-◌, ◌≤◌}
use Rattle.state.specs.Layout.{WordsSized}
use Rattle.state.specs.View.{leg_count}
use Rattle.quotes.proofs.QuoteLaws.{Lowering}
use Rattle.quotes.proofs.lower.Given as goal

abbrev pub invariant-loop-k : goal.invariant-loop-k
invariant-loop-k l = (l.k ≤ l.n) × (l.n ≡ leg_count l.initial.words) × WordsSized l.words × Lowering l.ask l.units l.initial.words l.words l.k

abbrev pub decreases-loop-k : goal.decreases-loop-k
decreases-loop-k l = l.n - l.k
