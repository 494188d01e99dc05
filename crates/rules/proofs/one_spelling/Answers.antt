use Rattle.rules.proofs.HandedLaws.{one_spelling}
use Rattle.rules.proofs.one_spelling.Goals as goal

pub returns : goal.returns
returns c = one_spelling
