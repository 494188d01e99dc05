use Rattle.rules.proofs.AverageLaws.{averages_are_exact_of_rules}
use Rattle.rules.proofs.averages_are_exact_of_rules.Goals as goal

pub returns : goal.returns
returns c = averages_are_exact_of_rules
