use native.Mathlib.Omega.{arith}
use lib.ListN.{length-set}
use Rattle.records.proofs.RecordLaws.{adds_one, adds_full}
use Rattle.records.proofs.put_record.Goals as goal

pub bounds-list-b-then-at-list : goal.bounds-list-b-then-at-list
bounds-list-b-then-at-list c = simp length-set (omega arith)

pub bounds-list-b-then-at-list-2 : goal.bounds-list-b-then-at-list-2
bounds-list-b-then-at-list-2 c = simp length-set (omega arith)

pub bounds-list-b-then-at-list-3 : goal.bounds-list-b-then-at-list-3
bounds-list-b-then-at-list-3 c = simp length-set (omega arith)

pub bounds-list-b-then-at-list-4 : goal.bounds-list-b-then-at-list-4
bounds-list-b-then-at-list-4 c = simp length-set (omega arith)

pub bounds-list-b-then-at-list-5 : goal.bounds-list-b-then-at-list-5
bounds-list-b-then-at-list-5 c = simp length-set (omega arith)

pub returns-then-at-list : goal.returns-then-at-list
returns-then-at-list c = let a = c.args in adds_one a.list.now a.at a.number a.order a.rank a.contra a.price a.units (omega arith)

pub returns : goal.returns
returns c = let a = c.args in adds_full a.list.now a.at _ (omega arith)
