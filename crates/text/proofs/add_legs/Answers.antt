use Rattle.text.proofs.PutsLaws.{puts_line}
use Rattle.text.proofs.add_legs.Goals as goal

pub returns : goal.returns
returns c = let l = c.put_legs-n.ensures in puts_line _ _ _ _ _ _ _ _ l.0 l.1 l.2 c.add.ensures
