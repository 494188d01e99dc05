use native.Mathlib.Omega.{arith}
use Rattle.book.proofs.GapLaws.{part-shifted, closing-shift}
use Rattle.book.proofs.changes.shift.Goals as goal

pub returns : goal.returns
returns g c =
    let a = c.args in
    let i = c.copy_within.ensures.by_index in
    closing-shift a.w g.row.N _ a.longs.now a.words.now _ c.shift_columns.new.words (omega arith, omega arith) (omega arith) (omega arith)
    (part-shifted _ _ g.row.N a.longs.now c.copy_within.new.self (omega arith) (omega arith) (omega arith) i.0 i.2) c.shift_columns.ensures
