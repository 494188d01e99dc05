use Rattle.rules.proofs.KeptLaws.{legs_kept_of_rules}
use Rattle.rules.proofs.legs_kept_of_rules.Goals as goal

pub returns : goal.returns
returns c = legs_kept_of_rules
