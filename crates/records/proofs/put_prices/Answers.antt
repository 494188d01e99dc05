use Rattle.records.proofs.RecordLaws.{prices-one, prices_none}
use native.Mathlib.Omega.{arith}
use lib.ListN.{length-set}
use Rattle.records.proofs.put_prices.Goals as goal

pub bounds-list-b-then-j-list : goal.bounds-list-b-then-j-list
bounds-list-b-then-j-list c = simp length-set (omega arith)

pub bounds-list-b-then-j-list-2 : goal.bounds-list-b-then-j-list-2
bounds-list-b-then-j-list-2 c = simp length-set (omega arith)

pub bounds-list-b-then-j-list-3 : goal.bounds-list-b-then-j-list-3
bounds-list-b-then-j-list-3 c = simp length-set (omega arith)

pub bounds-list-b-then-j-list-4 : goal.bounds-list-b-then-j-list-4
bounds-list-b-then-j-list-4 c = simp length-set (omega arith)

pub returns-then-j-list : goal.returns-then-j-list
returns-then-j-list c = let a = c.args in prices-one a.list.now a.j a.n a.prices.now (omega arith)

pub returns-else-j-list : goal.returns-else-j-list
returns-else-j-list c = let a = c.args in prices_none a.list.now a.j _ (omega arith)
