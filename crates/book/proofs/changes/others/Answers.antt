use mathlib.Core.Path.{◌≡◌, refl}
use mathlib.Core.Bool.{not}
use Prim.Native.Nat.{◌+◌}
use native.Mathlib.Omega.{arith}
use lib.Dec.{eqb}
use lib.ListN.{get_or}
use Rattle.book.proofs.PassLaws.{flag_more}
use borrow.Author.Rules.{rules}
use Rattle.book.proofs.changes.others.Goals as goal

pub loop-k-init : goal.loop-k-init
loop-k-init c = (omega arith, c.open_count-m.ensures, search rules, λ i h. absurd (omega arith))

pub loop-k-preserved : goal.loop-k-preserved
loop-k-preserved c =
    let a = c.args in
    let v = c.loop-k.invariant in
    (omega arith, v.1, search rules, flag_more c.loop-k.keep c.loop-k.k _ (λ i b. b ≡ not (eqb (get_or a.words.now (a.a + i) 0) a.x)) (omega arith) refl v.3)

pub returns : goal.returns
returns c i h = c.loop-k.invariant.3 i (omega arith)
