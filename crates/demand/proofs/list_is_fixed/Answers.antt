use Rattle.demand.proofs.ToldLaws.{list_is_fixed}
use Rattle.demand.proofs.list_is_fixed.Goals as goal

pub returns : goal.returns
returns c = list_is_fixed
