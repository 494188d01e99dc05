use mathlib.Core.Path.{◌≡◌}
use mathlib.Core.List.{List}
use Prim.Native.Nat.{ℕ, ◌≤◌}
use Rattle.rules.specs.Auction.{queue, first_in}
use Rattle.types.specs.View.{from}
use Rattle.state.specs.View.{entry_at, open_count}
use Rattle.book.specs.Questions.{front_of}
use Rattle.book.proofs.first_queued.Given as goal

abbrev pub invariant-loop-k : goal.invariant-loop-k
invariant-loop-k l = (l.k ≤ l.initial.k) × (l.initial.k ≡ open_count l.words) × ((longs : List ℕ) → l.first ≡ front_of (first_in (queue (from (entry_at longs l.words) l.k l.initial.k))))

abbrev pub decreases-loop-k : goal.decreases-loop-k
decreases-loop-k l = l.k
