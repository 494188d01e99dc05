use mathlib.Core.Path.{◌≡◌, sym, ap, ◌∙◌}
use Prim.Native.Nat.{ℕ, ◌+◌, ◌-◌, ◌/◌, ◌%◌}
use native.Mathlib.Omega.{arith}
use lib.ListN.{get_or}
use Rattle.legprices.specs.Sums.{table_words, stands}
use Rattle.legprices.specs.Tables.{bit}
use Rattle.legprices.proofs.TableLaws.{going-none, going-one, going-all}
use Rattle.legprices.proofs.sums.copy.Goals as goal

pub loop-k-init : goal.loop-k-init
loop-k-init c = (omega arith, going-none table_words 0 c.args.bits.now (stands c.args.bits.now table_words) (omega arith))

pub loop-k-preserved : goal.loop-k-preserved
loop-k-preserved c =
    let k = c.loop-k.k in
    let old = c.args.bits.now in
    let g = c.loop-k.invariant.1 in
    let w = get_or c.loop-k.bits (22 + (k - 1)) 0 in
    let e : (s : ℕ) → s / 64 ≡ k - 1 → bit w (s % 64) ≡ stands old table_words s =
    λ s j. ap (λ (x : ℕ). bit x (s % 64)) (g.above (22 + (k - 1)) (omega arith) ∙ ap (λ (i : ℕ). get_or old (22 + i) 0) (sym j)) in
    (omega arith, going-one table_words 0 old (stands old table_words) (k - 1) k (k - 1) w c.loop-k.bits (omega arith) (omega arith) (omega arith) (omega arith) e g)

pub returns : goal.returns
returns c =
    let old = c.args.bits.now in
    going-all table_words 0 old (stands old table_words) c.loop-k.k c.loop-k.bits (omega arith) (λ s j. absurd (omega arith)) c.loop-k.invariant.1
