use mathlib.Core.Path.{◌≡◌, sym}
use native.Mathlib.Omega.{arith}
use Rattle.rules.specs.Book.{nobody, find}
use Rattle.state.specs.View.{entries_of}
use Rattle.book.proofs.FindLaws.{first-found}
use Rattle.book.proofs.GapLaws.{nobody_leaves}
use Rattle.book.proofs.changes.take_out.Goals as goal

pub returns-in_err-k : goal.returns-in_err-k
returns-in_err-k c =
    let a = c.args in
    let n : find a.id (entries_of a.longs.now a.words.now) ≡ nobody = c.in_err-k.ensures.entry a.longs.now in
    (rw c.from_residual.ensures n, nobody_leaves a.longs.now a.words.now a.id n)

pub remove_from-requires : goal.remove_from-requires
remove_from-requires c =
    let a = c.args in
    let f = first-found a.words.now a.id c.in_ok-k.k (omega arith) (sym c.in_ok-k.ensures.place) in
    (f.1, f.0)
