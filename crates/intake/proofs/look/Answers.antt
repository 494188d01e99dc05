use mathlib.Core.Path.{ap, ◌∙◌}
use mathlib.Core.List.{[], ◌∷◌}
use native.Mathlib.Omega.{arith}
use Prim.Native.Nat.{min}
use lib.ListN.{get_or}
use Rattle.rules.specs.Prices.{Derived, derived}
use Rattle.rules.specs.Auction.{units_at}
use Rattle.state.specs.Layout as L
use Rattle.state.specs.View.{legs_of, market_of}
use Rattle.intake.proofs.ArrivalLaws.{least_kept, nothing_seen}
use Rattle.intake.proofs.look.Goals as goal

pub returns-then-is_pending-kept : goal.returns-then-is_pending-kept
returns-then-is_pending-kept c =
    let l = c.args.longs.now in
    let w = c.args.words.now in
    least_kept l w c.least_shown.result (omega arith, omega arith)
    (c.least_shown.ensures
    ∙ ap (λ (d : Derived). min (get_or w L.start_units 0) (units_at (get_or l L.start_prices 0) (d ∷ []))) (c.derived-d.ensures.0 l ∙ ap (λ x. derived x (legs_of w) (market_of w)) c.is_set.ensures))

pub returns-else-is_pending-kept : goal.returns-else-is_pending-kept
returns-else-is_pending-kept c =
    nothing_seen c.args.longs.now c.args.words.now c.is_pending.result (c.is_pending.ensures c.args.longs.now) c.if-is_pending-kept.false
