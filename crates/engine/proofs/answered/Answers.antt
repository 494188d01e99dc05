use mathlib.Core.Path.{ap, sym, ◌∙◌}
use Prim.Native.Nat.{ℕ}
use native.Mathlib.Omega.{arith}
use Rattle.rules.specs.Outcome.{Refused}
use Rattle.rules.specs.Refusals.{refusal}
use Rattle.types.specs.View.{message_of}
use Rattle.types.proofs.RefusalLaws.{is_some_number}
use Rattle.state.specs.View.{state_of}
use Rattle.engine.proofs.AnswerLaws.{all-fit, let-pass, step-accepted, step_refused}
use borrow.Author.Rules.{rules}
use Rattle.engine.proofs.answered.Goals as goal

pub accepted-requires : goal.accepted-requires
accepted-requires c =
    let a = c.args in
    let l = a.longs.now in
    let w = a.words.now in
    let f = all-fit l w a.list.now a.room _ (omega arith, omega arith) c.min-places.ensures in
    let p = let-pass l w a.list.now (message_of a.m) a.room (ap (λ (n : ℕ). refusal (state_of l w) (message_of a.m) n) (sym f) ∙ sym c.in-Ok.ensures) in
    (p.room, p.next, p.time)

pub returns-in-Ok : goal.returns-in-Ok
returns-in-Ok c =
    let a = c.args in
    let l = a.longs.now in
    let w = a.words.now in
    let f = all-fit l w a.list.now a.room _ (omega arith, omega arith) c.min-places.ensures in
    step-accepted l w a.list.now (message_of a.m) a.room c.accepted.new.longs _ _ _ (ap (λ (n : ℕ). refusal (state_of l w) (message_of a.m) n) (sym f) ∙ sym c.in-Ok.ensures) (search rules) (search rules) c.accepted.ensures

pub returns-in-Err : goal.returns-in-Err
returns-in-Err c =
    let a = c.args in
    let l = a.longs.now in
    let w = a.words.now in
    let p = is_some_number c.in-Err.row in
    let f = all-fit l w a.list.now a.room _ (omega arith, omega arith) c.min-places.ensures in
    let n = c.in-Err.ensures ∙ ap (λ (n : ℕ). refusal (state_of l w) (message_of a.m) n) f in
    step_refused l w a.list.now (message_of a.m) a.room _ (λ e. absurd (omega (arith, p, n, e))) c.refused.ensures.0 (c.refused.ensures.1 ∙ ap Refused n)
