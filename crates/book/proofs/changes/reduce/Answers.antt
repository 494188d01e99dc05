use mathlib.Core.Path.{sym}
use native.Mathlib.Omega.{arith}
use Rattle.book.proofs.FindLaws.{first-found}
use Rattle.book.proofs.ReduceLaws.{one-reduced, none-reduced}
use Rattle.book.proofs.changes.reduce.Goals as goal

pub returns-in-Some : goal.returns-in-Some
returns-in-Some c longs =
    let a = c.args in
    let f = first-found a.words.now a.id c.in-Some.k (omega arith) (sym c.in-Some.ensures.place) in
    one-reduced longs a.words.now a.id a.units c.in-Some.k f.1 (omega arith) f.0

pub returns-in_default : goal.returns-in_default
returns-in_default c longs = none-reduced longs c.args.words.now c.args.id c.args.units (c.in_default.ensures.entry longs)
