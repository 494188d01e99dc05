use mathlib.Core.Path.{ap₂, sym, ◌∙◌}
use Prim.Native.Nat.{◌*◌}
use Rattle.state.specs.View.{leg_at, quote_at}
use Rattle.quotes.proofs.LegLaws.{part-bought, part-sold}
use Rattle.quotes.proofs.leg_part.Goals as goal

pub returns-then-is_b : goal.returns-then-is_b
returns-then-is_b c =
    let a = c.args in
    let w = a.words.now in
    part-bought a.national a.ask (leg_at w a.k) (quote_at w a.k) c.times-cost.result c.units_shown-units.result
    (c.times-cost.ensures.0 ∙ ap₂ ◌*◌ c.ratio_at.ensures c.price_used.ensures) c.times-cost.ensures.1 c.units_shown-units.ensures (sym c.is_b.ensures ∙ c.if-is_b.true)

pub returns-else-is_b : goal.returns-else-is_b
returns-else-is_b c =
    let a = c.args in
    let w = a.words.now in
    part-sold a.national a.ask (leg_at w a.k) (quote_at w a.k) c.times-cost.result c.units_shown-units.result
    (c.times-cost.ensures.0 ∙ ap₂ ◌*◌ c.ratio_at.ensures c.price_used.ensures) c.times-cost.ensures.1 c.units_shown-units.ensures (sym c.is_b.ensures ∙ c.if-is_b.false)
