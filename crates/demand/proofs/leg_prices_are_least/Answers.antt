use Rattle.demand.proofs.ToldLaws.{leg_prices_are_least}
use Rattle.demand.proofs.leg_prices_are_least.Goals as goal

pub returns : goal.returns
returns c = leg_prices_are_least
