use Rattle.demand.proofs.ToldLaws.{legs_kept}
use Rattle.demand.proofs.legs_kept.Goals as goal

pub returns : goal.returns
returns c = legs_kept
