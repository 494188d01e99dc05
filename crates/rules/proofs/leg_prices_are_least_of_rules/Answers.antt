use Rattle.rules.proofs.LeastLaws.{leg_prices_are_least_of_rules}
use Rattle.rules.proofs.leg_prices_are_least_of_rules.Goals as goal

pub returns : goal.returns
returns c = leg_prices_are_least_of_rules
