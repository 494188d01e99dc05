use Rattle.rules.proofs.ShareLaws.{sharing_is_exact}
use Rattle.rules.proofs.sharing_is_exact.Goals as goal

pub returns : goal.returns
returns c = sharing_is_exact
