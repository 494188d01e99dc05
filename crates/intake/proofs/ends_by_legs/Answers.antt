use mathlib.Core.Path.{ap}
use Rattle.rules.specs.Prices.{Derived}
use Rattle.rules.specs.Auction.{ends_by_legs}
use Rattle.intake.proofs.ArrivalLaws.{pending-in, none_in}
use Rattle.intake.proofs.ends_by_legs.Goals as goal

pub returns-then-is_pending : goal.returns-then-is_pending
unfolding ends_by_legs
returns-then-is_pending c = λ longs.
    let d = c.derived-d.ensures.0 longs in
    rw (
      c.beats-better.ensures longs,
      ap (λ (x : Derived). x.units) d,
      ap (λ (x : Derived). x.price) d,
      c.is_set-side.ensures,
      pending-in longs c.args.words.now c.is_pending.result (c.is_pending.ensures longs) c.if-is_pending.true,
    )

pub returns : goal.returns
unfolding ends_by_legs
returns c = λ longs.
    rw (none_in longs c.args.words.now c.is_pending.result (c.is_pending.ensures longs) c.if-is_pending.false)
