use Rattle.demand.proofs.ToldLaws.{demand_3}
use Rattle.demand.proofs.demand_3.Goals as goal

pub returns : goal.returns
returns c = demand_3
