use mathlib.Core.Path.{◌≡◌}
use mathlib.Core.List.{List}
use Prim.Native.Nat.{ℕ, ◌+◌, ◌-◌, ◌≤◌}
use Rattle.rules.specs.Book.{count, is_response}
use Rattle.types.specs.View.{from}
use Rattle.state.specs.View.{entry_at, open_count}
use Rattle.book.proofs.open_counts.Given as goal

abbrev pub invariant-loop-k : goal.invariant-loop-k
invariant-loop-k l =
    (l.k ≤ l.m) × (l.m ≡ open_count l.words) × (l.responses ≤ l.k)
    × ((longs : List ℕ) → l.responses + count (λ e. is_response e.stage) (from (entry_at longs l.words) l.k l.m) ≡ count (λ e. is_response e.stage) (from (entry_at longs l.words) 0 l.m))

abbrev pub decreases-loop-k : goal.decreases-loop-k
decreases-loop-k l = l.m - l.k
