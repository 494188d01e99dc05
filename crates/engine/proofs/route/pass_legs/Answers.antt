use mathlib.Core.Path.{sym, ◌∙◌}
use borrow.Author.Tests.{not-true}
use Rattle.rules.specs.Execution.{legs_pass}
use Rattle.rules.specs.Step.{pass_legs}
use Rattle.state.specs.View.{state_of}
use Rattle.execution.proofs.GoesLaws.{goes_none, goes_as, goes_then}
use Rattle.engine.proofs.RouteLaws.{serve-still, pass_is}
use Rattle.engine.proofs.route.pass_legs.Goals as goal

pub returns-then-none_reaches : goal.returns-then-none_reaches
returns-then-none_reaches c =
    let a = c.args in
    let l = a.longs.now in
    let w = a.words.now in
    goes_none l w _ _ pass_legs (serve-still legs_pass _ (state_of l w) (not-true _ (sym (c.none_reaches.ensures l) ∙ c.if-none_reaches.true)))

pub returns : goal.returns
returns c =
    let a = c.args in
    let l = a.longs.now in
    goes_as pass_legs (pass_is _ _ (state_of l a.words.now) (c.live_ids-n.ensures.2 l) (c.live_ids-m.ensures.2 l)) (goes_then c.serve-w.ensures c.serve.ensures)
