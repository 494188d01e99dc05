use Rattle.rules.specs.Step.{quiet}
use Rattle.state.specs.View.{state_of}
use Rattle.execution.proofs.GoesLaws.{goes_none, goes_as}
use Rattle.engine.proofs.RouteLaws.{quiet-still, quiet-steps}
use Rattle.engine.proofs.route.quiet.Goals as goal

pub returns-then-is_pending : goal.returns-then-is_pending
returns-then-is_pending c =
    let a = c.args in
    let l = a.longs.now in
    let w = a.words.now in
    goes_none l w _ _ (λ s. quiet s s.auction) (quiet-still (state_of l w) (c.is_pending.ensures l) c.if-is_pending.true)

pub returns : goal.returns
returns c =
    let a = c.args in
    let l = a.longs.now in
    goes_as (λ s. quiet s s.auction) (quiet-steps (state_of l a.words.now) (c.is_pending.ensures l) c.if-is_pending.false) c.steps.ensures
