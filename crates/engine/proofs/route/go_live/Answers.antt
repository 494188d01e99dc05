use mathlib.Core.Path.{ap, sym, ◌∙◌}
use mathlib.Core.List.{List}
use Prim.Native.Nat.{ℕ}
use Rattle.rules.specs.Execution.{going_live, serve}
use Rattle.rules.specs.Step.{go_live}
use Rattle.state.specs.View.{state_of}
use Rattle.execution.proofs.GoesLaws.{goes_none, goes_as}
use Rattle.engine.proofs.RouteLaws.{serve-still}
use Rattle.engine.proofs.route.go_live.Goals as goal

pub returns-then-not-any_held : goal.returns-then-not-any_held
returns-then-not-any_held c =
    let a = c.args in
    let l = a.longs.now in
    let w = a.words.now in
    goes_none l w _ _ go_live (serve-still going_live _ (state_of l w) (sym (c.any_held.ensures l) ∙ c.if-not-any_held.true))

pub returns : goal.returns
returns c =
    let a = c.args in
    let l = a.longs.now in
    goes_as go_live (ap (λ (x : List ℕ). serve going_live x (state_of l a.words.now)) (c.held_ids-n.ensures.2 l)) c.serve.ensures
