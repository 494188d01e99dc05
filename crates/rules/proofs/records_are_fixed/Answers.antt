use Rattle.rules.proofs.ArrivalLaws.{records_are_fixed}
use Rattle.rules.proofs.records_are_fixed.Goals as goal

pub returns : goal.returns
returns c = records_are_fixed
