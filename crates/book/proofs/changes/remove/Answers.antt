use mathlib.Core.Path.{sym}
use native.Mathlib.Omega.{arith}
use Rattle.book.proofs.FindLaws.{first-found}
use Rattle.book.proofs.GapLaws.{nobody_leaves}
use Rattle.book.proofs.changes.remove.Goals as goal

pub remove_from-requires : goal.remove_from-requires
remove_from-requires c =
    let a = c.args in
    let f = first-found a.words.now a.id c.in-Some.k (omega arith) (sym c.in-Some.ensures.place) in
    (f.1, f.0)

pub returns-in_default : goal.returns-in_default
returns-in_default c =
    let a = c.args in
    nobody_leaves a.longs.now a.words.now a.id (c.in_default.ensures.entry a.longs.now)
