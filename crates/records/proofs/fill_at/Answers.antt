use Prim.Native.Nat.{◌/◌}
use lib.ListN.{length}
use native.Mathlib.Omega.{arith}
use borrow.Author.Tests.{lt-ltb, le-ltb}
use Rattle.records.proofs.RecordLaws.{cut_holds}
use Rattle.records.proofs.fill_at.Goals as goal

pub returns-then-j-list : goal.returns-then-j-list
returns-then-j-list c = let a = c.args in rw (lt-ltb a.j (length a.list.now / 11) c.if-j-list.true) (cut_holds a.list.now a.j _ _ (omega arith) c.fill_from.ensures)

pub returns : goal.returns
returns c = let a = c.args in rw (le-ltb a.j (length a.list.now / 11) c.if-j-list.false) c.fill_from-2.ensures
