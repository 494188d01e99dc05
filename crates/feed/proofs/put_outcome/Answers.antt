use Rattle.text.proofs.PutsLaws.{puts_line}
use Rattle.feed.proofs.put_outcome.Goals as goal

pub returns : goal.returns
returns c = let l = c.put_outcome-n.ensures in puts_line _ _ _ _ _ _ _ _ l.0 l.1 l.2 c.add.ensures
