use Prim.Native.Nat.{◌+◌}
use Rattle.book.specs.Kept.{Columns}
use Rattle.book.proofs.changes.shift_columns.Given as goal

abbrev pub invariant-loop-q : goal.invariant-loop-q
invariant-loop-q g l = Columns l.w (l.w + g.row.N + 1) l.q l.initial.words l.words
