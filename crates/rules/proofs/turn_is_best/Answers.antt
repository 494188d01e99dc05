use Rattle.rules.proofs.BestLaws.{turn_is_best}
use Rattle.rules.proofs.turn_is_best.Goals as goal

pub returns : goal.returns
returns c = turn_is_best
