use mathlib.Core.Bool.{not}
use native.Mathlib.Omega.{arith}
use lib.Dec.{eqb}
use Rattle.book.proofs.BookLaws.{becomes}
use Rattle.book.proofs.GapLaws.{alone}
use Rattle.book.proofs.changes.remove_from.Goals as goal

pub returns-then-any_from : goal.returns-then-any_from
returns-then-any_from c =
    let a = c.args in
    let k = c.compact.ensures in
    becomes a.longs.now a.words.now c.compact.new.longs c.compact.new.words _ k.longs k.words (k.entries (λ e. not (eqb e.id a.id)) c.others-keep.ensures)

pub returns : goal.returns
returns c =
    let a = c.args in
    let k = c.close_gap.ensures in
    becomes a.longs.now a.words.now c.close_gap.new.longs c.close_gap.new.words _ k.longs k.words
    (k.entries (λ e. not (eqb e.id a.id)) (alone a.id a.words.now a.k c.requires.0 c.requires.1 (λ i h. c.any_from.ensures c.if-any_from.false i (omega arith))))
