-- The number, and what it stores.
use mathlib.Core.Path.{sym, ◌∙◌}
use native.Mathlib.Omega.{arith}
use Rattle.types.specs.View.{opening_of}
use Rattle.types.proofs.RefusalLaws.{handed_on, is_some_number}
use Rattle.state.proofs.StateLaws.{sized_is, sized_not}
use Rattle.opening.proofs.OpensLaws.{unfit, turned-back, opened}
use borrow.Author.Rules.{rules}
use Rattle.opening.proofs.open.Goals as goal

pub returns-in_default : goal.returns-in_default
returns-in_default c =
    let a = c.args in
    unfit a.longs.now a.words.now (opening_of a.o) (sized_not a.longs.now a.words.now (λ s. c.in_default.ensures.cases s.0))

pub returns-in_default-as_mut_array : goal.returns-in_default-as_mut_array
returns-in_default-as_mut_array c =
    let a = c.args in
    rw c.in-Some.ensures.cases.same (unfit a.longs.now a.words.now (opening_of a.o) (sized_not a.longs.now a.words.now (λ s. c.in_default-as_mut_array.ensures.cases s.1)))

pub returns-in_err-refusal : goal.returns-in_err-refusal
returns-in_err-refusal c =
    let a = c.args in
    let l = c.in-Some.ensures.cases in
    let w = c.in-Some-as_mut_array.ensures.cases in
    let e = handed_on _ _ c.from_residual.ensures.1 in
    let p = is_some_number c.in_err-refusal.field-0.0 in
    rw (l.same, w.same) (turned-back a.longs.now a.words.now (opening_of a.o) _ (sized_is a.longs.now a.words.now (l.long, w.long)) (e ∙ c.in_err-refusal.ensures) (omega (arith, e, p)))

pub start-requires : goal.start-requires
start-requires c = sym c.in_ok-refusal.ensures

pub returns : goal.returns
returns c =
    let a = c.args in
    let l = c.in-Some.ensures.cases in
    let w = c.in-Some-as_mut_array.ensures.cases in
    opened a.longs.now a.words.now (opening_of a.o) c.start.new.longs c.start.new.words (sized_is a.longs.now a.words.now (l.long, w.long))
    c.in_ok-refusal.ensures c.start.ensures (search rules) (search rules)
