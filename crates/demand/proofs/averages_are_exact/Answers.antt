use Rattle.demand.proofs.ToldLaws.{averages_are_exact}
use Rattle.demand.proofs.averages_are_exact.Goals as goal

pub returns : goal.returns
returns c = averages_are_exact
