use mathlib.Core.Path.{sym, ap, ◌∙◌}
use mathlib.Core.List.{List}
use Prim.Native.Nat.{ℕ, ◌+◌, min}
use native.Mathlib.Omega.{arith}
use Rattle.rules.specs.Strategy.{Leg}
use Rattle.rules.specs.Prices.{Quote}
use Rattle.rules.specs.Filter.{smallest_ratio, smallest_ratio_from}
use Rattle.quotes.proofs.LegLaws.{legs_from, next-leg, no-leg}
use Rattle.quotes.proofs.smallest_ratio.Goals as goal

abbrev pub of_legs : List Leg → List Quote → ℕ
of_legs ls qs = smallest_ratio ls

abbrev pub of_legs_from : ℕ → List Leg → List Quote → ℕ
of_legs_from t ls qs = smallest_ratio_from t ls

pub returns-then-n-eq0 : goal.returns-then-n-eq0
returns-then-n-eq0 c = (λ longs. sym (no-leg of_legs c.args.words.now 0 (omega arith)), omega arith)

pub loop-k-init : goal.loop-k-init
loop-k-init c =
    let w = c.args.words.now in (
      omega arith,
      omega arith,
      c.leg_count-n.ensures,
      omega (arith, c.ratio_at-t.ensures),
      ap (λ (x : ℕ). smallest_ratio_from x (legs_from w 1)) c.ratio_at-t.ensures ∙ sym (next-leg of_legs w 0 (omega arith)),
    )

pub loop-k-preserved : goal.loop-k-preserved
loop-k-preserved c =
    let w = c.args.words.now in
    let k = c.loop-k.k in (
      omega arith,
      omega arith,
      c.loop-k.invariant.2,
      omega (arith, c.loop-k.invariant.3, c.min-t.ensures),
      ap (λ (x : ℕ). smallest_ratio_from x (legs_from w (k + 1))) (c.min-t.ensures ∙ ap (min c.loop-k.t) c.ratio_at.ensures) ∙ sym (next-leg (of_legs_from c.loop-k.t) w k (omega arith)) ∙ c.loop-k.invariant.4,
    )

pub returns : goal.returns
returns c =
    let w = c.args.words.now in
    (λ longs. sym (no-leg (of_legs_from c.loop-k.t) w c.loop-k.k (omega arith)) ∙ c.loop-k.invariant.4, c.loop-k.invariant.3)
