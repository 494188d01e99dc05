use mathlib.Core.Path.{sym, ap, ◌∙◌}
use Prim.Native.Nat.{◌+◌}
use native.Mathlib.Omega.{arith}
use Rattle.rules.specs.Filter.{LegPrice, smaller, smallest, smallest_from}
use Rattle.quotes.specs.Uses.{leg_price_of}
use Rattle.quotes.proofs.LegLaws.{legs_from, quotes_from, next-leg, no-leg}
use Rattle.quotes.proofs.smallest.Goals as goal

pub returns-then-n-eq0 : goal.returns-then-n-eq0
returns-then-n-eq0 c longs =
    let a = c.args in
    sym (no-leg (smallest a.ask) a.words.now 0 (omega arith))

pub loop-k-init : goal.loop-k-init
loop-k-init c =
    let a = c.args in
    let w = a.words.now in (
      omega arith,
      omega arith,
      c.leg_count-n.ensures,
      ap (λ (x : LegPrice). smallest_from x a.ask (legs_from w 1) (quotes_from w 1)) c.price_of-p.ensures ∙ sym (next-leg (smallest a.ask) w 0 (omega arith)),
    )

pub loop-k-preserved : goal.loop-k-preserved
loop-k-preserved c =
    let a = c.args in
    let w = a.words.now in
    let k = c.loop-k.k in
    let p = leg_price_of c.loop-k.p in (
      omega arith,
      omega arith,
      c.loop-k.invariant.2,
      ap (λ (x : LegPrice). smallest_from x a.ask (legs_from w (k + 1)) (quotes_from w (k + 1))) (c.smaller-p.ensures ∙ ap (smaller p) c.price_of.ensures)
          ∙ sym (next-leg (smallest_from p a.ask) w k (omega arith)) ∙ c.loop-k.invariant.3,
    )

pub returns : goal.returns
returns c longs =
    let a = c.args in
    sym (no-leg (smallest_from (leg_price_of c.loop-k.p) a.ask) a.words.now c.loop-k.k (omega arith)) ∙ c.loop-k.invariant.3
