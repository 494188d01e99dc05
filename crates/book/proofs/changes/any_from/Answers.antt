use mathlib.Core.Path.{sym, ◌∙◌}
use Prim.Native.Nat.{◌+◌}
use native.Mathlib.Omega.{arith}
use lib.Dec.{eqb}
use Rattle.book.proofs.FindLaws.{none-between}
use Rattle.book.proofs.changes.any_from.Goals as goal

pub returns : goal.returns
returns c s i p q =
    let a = c.args in
    none-between (λ y. eqb y a.x) a.words.now (a.a + a.k) _ (omega (arith, c.open_count-m.ensures)) (sym c.contains.ensures.value ∙ s) (a.a + i) (omega arith) (omega (arith, c.open_count-m.ensures))
