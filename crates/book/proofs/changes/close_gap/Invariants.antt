use Prim.Native.Nat.{◌+◌, ◌*◌, ◌≤◌}
use Rattle.book.specs.Kept.{Closing}
use Rattle.book.proofs.changes.close_gap.Given as goal

abbrev pub invariant-loop-i : goal.invariant-loop-i
invariant-loop-i l = Closing l.k (l.k + 4 * l.i) l.fn.longs l.fn.words l.longs l.words

abbrev pub invariant-loop-w : goal.invariant-loop-w
invariant-loop-w l = (l.k ≤ l.w) × Closing l.k l.w l.fn.longs l.fn.words l.longs l.words
