use mathlib.Core.Path.{◌≡◌}
use Prim.Native.Nat.{◌-◌, ◌≤◌}
use Rattle.state.specs.View.{open_count}
use Rattle.book.proofs.BookLaws.{Going}
use Rattle.book.proofs.changes.compact.Given as goal

abbrev pub invariant-loop-k : goal.invariant-loop-k
invariant-loop-k l = (l.k ≤ l.m) × (l.w ≤ l.k) × (l.m ≡ open_count l.initial.words) × Going l.keep l.initial.longs l.initial.words l.longs l.words l.m l.w l.k

abbrev pub decreases-loop-k : goal.decreases-loop-k
decreases-loop-k l = l.m - l.k
