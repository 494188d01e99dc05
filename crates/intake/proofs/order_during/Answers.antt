use mathlib.Core.Path.{refl, sym, ap, ◌∙◌}
use Rattle.rules.specs.Step.{with_new}
use Rattle.state.specs.View.{entry_of, state_of}
use Rattle.intake.proofs.ArrivalLaws.{during-ends, during-joins, during-held}
use Rattle.intake.proofs.order_during.Goals as goal

pub returns-then-ends_by_order : goal.returns-then-ends_by_order
returns-then-ends_by_order c = λ p ea.
    let a = c.args in
    let l = a.longs.now in
    let w = a.words.now in
    let o = entry_of a.e in
    during-ends (state_of l w) _ p a.wish c.ends_by_order.result o (c.ends_by_order.ensures l p o ea (sym c.is_set-buy.ensures) refl) c.if-ends_by_order.true c.append.ensures

pub returns-then-is_joining : goal.returns-then-is_joining
returns-then-is_joining c = λ p ea.
    let a = c.args in
    let l = a.longs.now in
    let w = a.words.now in
    let s = state_of l w in
    let o = entry_of a.e in
    let side = sym c.is_set-buy.ensures in
    during-joins s _ p a.wish c.ends_by_order.result o (c.ends_by_order.ensures l p o ea side refl) c.if-ends_by_order.false c.is_joining.result (c.is_joining.ensures l p o ea side refl refl) c.if-is_joining.true
    (c.append-then-is_joining.ensures ∙ ap (with_new s) c.in_queue.ensures)

pub returns : goal.returns
returns c = λ p ea.
    let a = c.args in
    let l = a.longs.now in
    let w = a.words.now in
    let o = entry_of a.e in
    let side = sym c.is_set-buy.ensures in
    during-held (state_of l w) _ p a.wish c.ends_by_order.result o (c.ends_by_order.ensures l p o ea side refl) c.if-ends_by_order.false c.is_joining.result (c.is_joining.ensures l p o ea side refl refl) c.if-is_joining.false c.append-2.ensures
