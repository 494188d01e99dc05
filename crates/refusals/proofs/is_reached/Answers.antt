use Rattle.refusals.proofs.RowLaws.{reached_words}
use Rattle.refusals.proofs.is_reached.Goals as goal

pub returns : goal.returns
returns c = let a = c.args in rw (reached_words a.longs.now a.words.now a.time, c.is_set.ensures)
