use mathlib.Core.Path.{ap, ◌∙◌}
use mathlib.Core.Bool.{Bool}
use Prim.Native.Nat.{◌+◌}
use lib.ListN.{get_or}
use Rattle.rules.specs.Prices.{derived}
use Rattle.types.specs.View.{stage_of, derived_of}
use Rattle.state.specs.Layout as L
use Rattle.state.specs.View.{flag, legs_of, market_of}
use Rattle.execution.proofs.ExecuteLaws.{reaches}
use Rattle.execution.proofs.is_ready.Goals as goal

pub returns-in-LegsPass : goal.returns-in-LegsPass
returns-in-LegsPass c longs =
    let a = c.args in
    let w = a.words.now in
    rw c.in-LegsPass.is
    (reaches (stage_of (get_or w (L.stages + a.k) 0)) c.is_set-buy.result (flag (get_or w (L.buys + a.k) 0)) (derived_of c.derived-d.result) (derived (flag (get_or w (L.buys + a.k) 0)) (legs_of w) (market_of w))
    (get_or w (L.prices + a.k) 0) c.is_live.result c.at_or_through-reaching.result c.is_set-buy.ensures (c.derived-d.ensures.0 longs ∙ ap (λ (b : Bool). derived b (legs_of w) (market_of w)) c.is_set-buy.ensures) c.is_live.ensures c.at_or_through-reaching.ensures)
