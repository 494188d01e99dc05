use native.Mathlib.Omega.{arith}
use Rattle.engine.proofs.RouteLaws.{closed_is}
use Rattle.engine.proofs.route.close.Goals as goal

pub returns : goal.returns
returns c =
    closed_is c.args.longs.now c.args.words.now c.close.new.longs c.close.new.words (omega arith) c.close.ensures
