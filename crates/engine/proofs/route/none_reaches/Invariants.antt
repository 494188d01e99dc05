use mathlib.Core.Path.{◌≡◌}
use mathlib.Core.List.{List}
use Prim.Native.Nat.{ℕ, ◌-◌, ◌≤◌}
use Rattle.rules.specs.Execution.{legs_pass, ready}
use Rattle.state.specs.View.{entry_at, open_count, state_of}
use Rattle.book.proofs.ScanLaws.{Seen}
use Rattle.engine.proofs.route.none_reaches.Given as goal

abbrev pub invariant-loop-k : goal.invariant-loop-k
invariant-loop-k l = (l.k ≤ l.m) × (l.m ≡ open_count l.words) × ((longs : List ℕ) → Seen l.seen (ready legs_pass (state_of longs l.words)) (entry_at longs l.words) l.k l.m)

abbrev pub decreases-loop-k : goal.decreases-loop-k
decreases-loop-k l = l.m - l.k
