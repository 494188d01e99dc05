use Rattle.engine.proofs.StepLaws.{taken_longs}
use borrow.Author.Rules.{rules}
use Rattle.engine.proofs.take.Goals as goal

pub returns : goal.returns
returns c = λ words. let a = c.args in taken_longs a.longs.now words a.time (search rules) (search rules)
