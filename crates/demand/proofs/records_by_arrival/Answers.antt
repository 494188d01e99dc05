use Rattle.demand.proofs.ToldLaws.{records_by_arrival}
use Rattle.demand.proofs.records_by_arrival.Goals as goal

pub returns : goal.returns
returns c = records_by_arrival
