use Rattle.rules.specs.Auction.{ends_by_order}
use Rattle.intake.proofs.ArrivalLaws.{pending_side}
use Rattle.intake.proofs.ends_by_order.Goals as goal

pub returns : goal.returns
unfolding ends_by_order
returns c = λ longs p o ea eb ep.
    rw (c.same_side.ensures, c.beats-better.ensures longs, c.from.ensures, c.is_set-side.ensures, pending_side longs c.args.words.now p ea, eb, ep)
