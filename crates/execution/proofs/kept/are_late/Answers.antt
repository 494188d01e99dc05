use Rattle.execution.proofs.KeptLaws.{start_none, start-one}
use Rattle.execution.proofs.kept.are_late.Goals as goal

pub returns-then-longs-eq0 : goal.returns-then-longs-eq0
returns-then-longs-eq0 c words = rw (start_none c.args.longs.now words c.if-longs-eq0.true)

pub returns-then-buy : goal.returns-then-buy
returns-then-buy c words = rw (start-one c.args.longs.now words c.if-longs-eq0.false, c.if-buy.true)

pub returns-else-buy : goal.returns-else-buy
returns-else-buy c words = rw (start-one c.args.longs.now words c.if-longs-eq0.false, c.if-buy.false)
