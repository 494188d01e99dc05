use Rattle.rules.proofs.BoundLaws.{records_fit}
use Rattle.rules.proofs.records_fit.Goals as goal

pub returns : goal.returns
returns c = records_fit
