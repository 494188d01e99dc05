use mathlib.Core.Path.{refl}
use mathlib.Core.Bool.{Bool}
use Prim.Native.Nat.{ℕ, ◌-◌}
use native.Mathlib.Omega.{arith}
use lib.Dec.{eqb}
use Rattle.legprices.specs.Sums.{table_words}
use Rattle.legprices.proofs.TableLaws.{going-none, going-one, going-all, zero_word, one_word}
use Rattle.legprices.proofs.sums.clear.Goals as goal

pub loop-k-init : goal.loop-k-init
loop-k-init c = (omega arith, omega arith, going-none table_words c.args.base c.args.bits.now (λ s. eqb s 0) (omega arith))

pub loop-k-preserved : goal.loop-k-preserved
loop-k-preserved c =
    let k = c.loop-k.k in
    let a = c.args in
    (omega arith, omega arith, going-one table_words a.base a.bits.now (λ s. eqb s 0) _ k (k - 1) 0 c.loop-k.bits (omega arith) (omega arith) refl (omega arith) (zero_word (k - 1) (omega arith)) c.loop-k.invariant.2)

pub returns : goal.returns
returns c =
    let k = c.loop-k.k in
    let a = c.args in
    let rule : ℕ → Bool = λ s. eqb s 0 in
    going-all table_words a.base a.bits.now rule 0 _ (omega arith) (λ s j. absurd (omega arith))
    (going-one table_words a.base a.bits.now rule a.base k 0 1 c.loop-k.bits (omega arith) (omega arith) (omega arith) (omega arith) one_word c.loop-k.invariant.2)
