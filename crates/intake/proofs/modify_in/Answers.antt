use mathlib.Core.Path.{ap, ◌∙◌}
use Rattle.rules.specs.State.{State, with_book}
use Rattle.rules.specs.Step.{modified_entry, with_new}
use Rattle.types.specs.View.{change_of}
use Rattle.state.specs.View.{entry_of, state_of}
use Rattle.book.proofs.ScanLaws.{without_nobody}
use Rattle.intake.proofs.ArrivalLaws.{modify-found, modify-none}
use Rattle.intake.proofs.modify_in.Goals as goal

pub returns-in-Some : goal.returns-in-Some
returns-in-Some c =
    let a = c.args in
    let t = change_of a.t in
    modify-found (state_of a.longs.now a.words.now) _ t (entry_of c.in-Some.e) (entry_of c.modified_entry.result) c.in-Some.ensures.0
    (c.append.ensures ∙ ap (λ (s : State). with_new s (entry_of c.modified_entry.result)) c.take_out.ensures.1)
    (c.modified_entry.ensures ∙ ap (λ n. modified_entry t n (entry_of c.in-Some.e)) c.number_of-number.ensures)

pub returns-in_default : goal.returns-in_default
returns-in_default c =
    let a = c.args in
    let s = state_of a.longs.now a.words.now in
    modify-none s _ (change_of a.t) c.in_default.ensures.0 (c.take_out.ensures.1 ∙ ap (with_book s) (without_nobody a.t.id s.book c.in_default.ensures.0))
