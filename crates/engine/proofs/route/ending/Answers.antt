use Rattle.rules.specs.Step.{closed, ending}
use Rattle.state.specs.View.{state_of}
use Rattle.execution.proofs.GoesLaws.{goes_as, goes_then, goes_after}
use Rattle.engine.proofs.RouteLaws.{ending_is}
use Rattle.engine.proofs.route.ending.Goals as goal

pub returns : goal.returns
returns c =
    let a = c.args in
    let l = a.longs.now in
    goes_as ending (ending_is _ (state_of l a.words.now) (c.queue_ids-n.ensures.2 l)) (goes_then c.serve-w.ensures (goes_after closed c.close.ensures c.steps.ensures))
