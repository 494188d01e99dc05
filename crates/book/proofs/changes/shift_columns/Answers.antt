use native.Mathlib.Omega.{arith}
use Rattle.book.proofs.GapLaws.{part-shifted, columns-one}
use Rattle.book.proofs.changes.shift_columns.Goals as goal

pub loop-q-preserved : goal.loop-q-preserved
loop-q-preserved g c =
    let a = c.args in
    let q = c.loop-q.q in
    let i = c.copy_within.ensures.by_index in
    columns-one a.w g.row.N q a.words.now c.loop-q.words _ (omega arith) c.loop-q.invariant
    (part-shifted _ _ g.row.N c.loop-q.words c.copy_within.new.self (omega arith) (omega (arith, c.loop-q.invariant.sized)) (omega arith) i.0 i.2)
