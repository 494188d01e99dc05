use Rattle.rules.specs.Step.{steps}
use Rattle.execution.proofs.GoesLaws.{goes_as, goes_then}
use Rattle.engine.proofs.RouteLaws.{steps_are}
use Rattle.engine.proofs.route.steps.Goals as goal

pub returns : goal.returns
returns c =
    goes_as steps (steps_are _) (goes_then c.go_live-w.ensures c.pass_legs.ensures)
