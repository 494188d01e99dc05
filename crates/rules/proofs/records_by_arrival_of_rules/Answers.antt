use Rattle.rules.proofs.ArrivalLaws.{records_by_arrival_of_rules}
use Rattle.rules.proofs.records_by_arrival_of_rules.Goals as goal

pub returns : goal.returns
returns c = records_by_arrival_of_rules
