use mathlib.Core.Path.{◌≡◌}
use mathlib.Core.Bool.{Bool, ◌&&◌, ◌||◌, not}
use mathlib.Core.List.{List}
use Prim.Native.Nat.{ℕ, ◌-◌, ◌≤◌}
use Rattle.rules.specs.Book.{Entry, same_side, better, is_held, is_live}
use Rattle.state.specs.View.{entry_at, open_count}
use Rattle.book.proofs.ScanLaws.{Seen}
use Rattle.book.proofs.in_front.Given as goal

-- an open order outside the queue, on that side, that the limit is not strictly better than
abbrev pub stands : Bool → ℕ → Entry → Bool
stands buy price e = (is_held e.stage || is_live e.stage) && same_side buy e.buy && not (better buy price e.price)

abbrev pub invariant-loop-k : goal.invariant-loop-k
invariant-loop-k l = (l.k ≤ l.m) × (l.m ≡ open_count l.words) × ((longs : List ℕ) → Seen l.seen (stands l.buy l.price) (entry_at longs l.words) l.k l.m)

abbrev pub decreases-loop-k : goal.decreases-loop-k
decreases-loop-k l = l.m - l.k
