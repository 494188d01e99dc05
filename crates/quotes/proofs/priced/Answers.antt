use mathlib.Core.Path.{sym, ◌∙◌}
use native.Mathlib.Omega.{arith}
use Rattle.rules.specs.Prices.{net, least}
use Rattle.quotes.specs.Uses.{price_used}
use Rattle.quotes.proofs.LegLaws.{no-leg, summed-none, summed-next, summed-all}
use borrow.Author.Rules.{rules}
use Rattle.quotes.proofs.priced.Goals as goal

pub returns-then-n-eq0 : goal.returns-then-n-eq0
returns-then-n-eq0 c =
    let a = c.args in
    let w = a.words.now in
    (λ longs. (sym (no-leg (net (price_used a.national a.ask)) w 0 (omega arith)), sym (no-leg (least a.ask) w 0 (omega arith))), omega arith)

pub loop-k-init : goal.loop-k-init
loop-k-init c =
    let a = c.args in
    (omega arith, c.leg_count-n.ensures, summed-none a.national a.ask a.words.now)

pub loop-k-preserved : goal.loop-k-preserved
loop-k-preserved c =
    let a = c.args in
    let s = c.loop-k in
    (omega arith, s.invariant.1, rw c.min-units.ensures (summed-next a.national a.ask a.words.now c.leg_part-p.result s.k (omega arith) c.leg_part-p.ensures s.bought s.sold s.units s.invariant.2))

pub returns : goal.returns
returns c =
    let a = c.args in
    let s = c.loop-k in
    let e = summed-all a.national a.ask a.words.now s.bought s.sold s.units s.k (omega arith) (λ i. search rules) (omega arith) s.invariant.2 in
    (λ longs. (c.saturating_sub.ensures ∙ e.0, e.1), omega (arith, c.saturating_sub.ensures, s.invariant.0, s.invariant.1, s.invariant.2.most.0))
