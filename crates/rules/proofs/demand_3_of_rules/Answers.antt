use Rattle.rules.proofs.RunLaws.{demand_3_of_rules}
use Rattle.rules.proofs.demand_3_of_rules.Goals as goal

pub returns : goal.returns
returns c = demand_3_of_rules
