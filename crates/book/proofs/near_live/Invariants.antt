use mathlib.Core.Path.{◌≡◌}
use mathlib.Core.List.{List}
use Prim.Native.Nat.{ℕ, ◌-◌, ◌≤◌}
use Rattle.state.specs.View.{entry_at, open_count}
use Rattle.book.specs.Questions.{is_near_live}
use Rattle.book.proofs.ScanLaws.{Seen}
use Rattle.book.proofs.near_live.Given as goal

abbrev pub invariant-loop-k : goal.invariant-loop-k
invariant-loop-k l = (l.k ≤ l.m) × (l.m ≡ open_count l.words) × ((longs : List ℕ) → Seen l.seen (is_near_live l.buy l.price l.distance) (entry_at longs l.words) l.k l.m)

abbrev pub decreases-loop-k : goal.decreases-loop-k
decreases-loop-k l = l.m - l.k
