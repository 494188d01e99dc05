use Rattle.rules.proofs.CentsLaws.{prices_are_exact}
use Rattle.rules.proofs.prices_are_exact.Goals as goal

pub returns : goal.returns
returns c = prices_are_exact
