use mathlib.Core.Path.{◌≡◌}
use mathlib.Core.Bool.{false, not}
use Prim.Native.Nat.{ℕ, ◌+◌, ◌-◌, ◌≤◌, ◌<◌}
use lib.ListN.{length, get_or}
use Rattle.rules.specs.Book.{is_response}
use Rattle.types.specs.View.{stage_of}
use Rattle.state.specs.Layout as L
use Rattle.state.specs.View.{open_count}
use Rattle.book.proofs.changes.orders.Given as goal

abbrev pub invariant-loop-k : goal.invariant-loop-k
invariant-loop-k l = (l.k ≤ l.m) × (l.m ≡ open_count l.words) × (length l.keep ≡ 64) × ((i : ℕ) → i < l.k → get_or l.keep i false ≡ not (is_response (stage_of (get_or l.words (L.stages + i) 0))))

abbrev pub decreases-loop-k : goal.decreases-loop-k
decreases-loop-k l = l.m - l.k
