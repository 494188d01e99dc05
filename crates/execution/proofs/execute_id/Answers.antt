use mathlib.Core.Path.{sym, ◌∙◌}
use Rattle.rules.specs.Execution.{execute}
use Rattle.state.specs.View.{entry_at, state_of}
use Rattle.execution.specs.Slots.{rules_mode}
use Rattle.execution.proofs.GoesLaws.{goes_none, goes_as}
use Rattle.execution.proofs.ServeLaws.{nobody-there, not-ready, ready-there}
use Rattle.execution.proofs.execute_id.Goals as goal

pub returns-in_default : goal.returns-in_default
returns-in_default c =
    let a = c.args in
    let l = a.longs.now in
    let w = a.words.now in
    goes_none l w _ _ (execute (rules_mode a.mode) a.id) (nobody-there (rules_mode a.mode) (state_of l w) a.id (c.in_default.ensures.entry l))

pub returns-then-is_ready : goal.returns-then-is_ready
returns-then-is_ready c =
    let a = c.args in
    let l = a.longs.now in
    let w = a.words.now in
    goes_as (execute (rules_mode a.mode) a.id) (ready-there (rules_mode a.mode) (state_of l w) a.id (entry_at l w c.in-Some.k) (c.in-Some.ensures.entry l) (sym (c.is_ready.ensures l) ∙ c.if-is_ready.true)) c.execute.ensures

pub returns : goal.returns
returns c =
    let a = c.args in
    let l = a.longs.now in
    let w = a.words.now in
    goes_none l w _ _ (execute (rules_mode a.mode) a.id) (not-ready (rules_mode a.mode) (state_of l w) a.id (entry_at l w c.in-Some.k) (c.in-Some.ensures.entry l) (sym (c.is_ready.ensures l) ∙ c.if-is_ready.false))
