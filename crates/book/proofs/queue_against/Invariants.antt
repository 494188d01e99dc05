use mathlib.Core.Path.{◌≡◌}
use mathlib.Core.List.{List}
use Prim.Native.Nat.{ℕ, ◌-◌, ◌≤◌}
use Rattle.rules.specs.Book.{is_queued}
use Rattle.state.specs.View.{entry_at, open_count}
use Rattle.book.specs.Questions.{is_across, is_unbeaten}
use Rattle.book.proofs.ScanLaws.{Seen}
use Rattle.book.proofs.queue_against.Given as goal

abbrev pub invariant-loop-k : goal.invariant-loop-k
invariant-loop-k l =
    (l.k ≤ l.m) × (l.m ≡ open_count l.words)
    × ((longs : List ℕ) → Seen l.a.there (λ e. is_queued e.stage) (entry_at longs l.words) l.k l.m × Seen l.a.other (is_across l.buy) (entry_at longs l.words) l.k l.m × Seen l.a.unbeaten (is_unbeaten l.buy l.price) (entry_at longs l.words) l.k l.m)

abbrev pub decreases-loop-k : goal.decreases-loop-k
decreases-loop-k l = l.m - l.k
