use mathlib.Core.Path.{ap₂, sym, ◌∙◌}
use Prim.Native.Nat.{◌/◌}
use Rattle.rules.specs.Prices.{used}
use Rattle.state.specs.View.{leg_at, quote_at}
use Rattle.quotes.proofs.LegLaws.{no_ratio, ratio_one}
use Rattle.quotes.proofs.units_shown.Goals as goal

pub returns-then-ratio-eq1 : goal.returns-then-ratio-eq1
returns-then-ratio-eq1 c =
    let a = c.args in
    let w = a.words.now in
    c.size_used-size.ensures ∙ ratio_one (used a.ask (leg_at w a.k) (quote_at w a.k)).size (leg_at w a.k).ratio (sym c.ratio_at-ratio.ensures ∙ c.if-ratio-eq1.true)

pub returns-then-ratio-eq0 : goal.returns-then-ratio-eq0
returns-then-ratio-eq0 c =
    let a = c.args in
    let w = a.words.now in
    no_ratio (used a.ask (leg_at w a.k) (quote_at w a.k)).size (leg_at w a.k).ratio (sym c.ratio_at-ratio.ensures ∙ c.if-ratio-eq0.true)

pub returns-else-ratio-eq0 : goal.returns-else-ratio-eq0
returns-else-ratio-eq0 c = ap₂ ◌/◌ c.size_used-size.ensures c.ratio_at-ratio.ensures
