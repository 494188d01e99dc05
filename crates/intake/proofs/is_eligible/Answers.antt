use mathlib.Core.Path.{ap}
use Rattle.rules.specs.Prices.{Derived}
use Rattle.rules.specs.Auction.{eligible}
use Rattle.intake.proofs.is_eligible.Goals as goal

pub returns : goal.returns
unfolding eligible
returns c = λ longs o eb ep eu.
    let d = c.derived-d.ensures.0 longs in
    rw (
      c.near_live-live.ensures longs,
      c.in_front-front.ensures longs o eb ep,
      c.is_beyond-far.ensures,
      c.from.ensures,
      ap (λ (x : Derived). x.units) d,
      ap (λ (x : Derived). x.price) d,
      c.meets_class-class.ensures longs,
      eb,
      ep,
      eu,
    )
