use mathlib.Core.Path.{refl, sym, ◌∙◌}
use native.Mathlib.Omega.{arith}
use Rattle.types.specs.View.{leg_at}
use Rattle.opening.specs.Asked.{is_good, is_dated, has_ratio, has_sides}
use Rattle.opening.proofs.AskLaws.{all_cons, all_end}
use borrow.Author.Rules.{rules}
use Rattle.opening.proofs.strategy.all_keep.Goals as goal

pub loop-at-init : goal.loop-at-init
loop-at-init c = (search rules, (refl, refl, refl, refl))

pub loop-at-preserved : goal.loop-at-preserved
loop-at-preserved c =
    let a = c.args in
    let k = c.keeps.ensures in
    let n = c.both_keep-all.ensures in
    let so = c.loop-at.all in
    let v = c.loop-at.invariant.1 in
    (search rules, (rw (n.0, k.0) (all_cons (leg_at a.o) c.loop-at.at a.o.count so.symbol is_good (omega arith) ∙ v.0), rw (n.1, k.1) (all_cons (leg_at a.o) c.loop-at.at a.o.count so.date is_dated (omega arith) ∙ v.1), rw (n.2, k.2) (all_cons (leg_at a.o) c.loop-at.at a.o.count so.ratio has_ratio (omega arith) ∙ v.2), rw (n.3, k.3) (all_cons (leg_at a.o) c.loop-at.at a.o.count so.sides has_sides (omega arith) ∙ v.3)))

pub returns : goal.returns
returns c =
    let a = c.args in
    let so = c.loop-at.all in
    let v = c.loop-at.invariant.1 in
    (sym (all_end (leg_at a.o) c.loop-at.at a.o.count so.symbol is_good (omega arith)) ∙ v.0, sym (all_end (leg_at a.o) c.loop-at.at a.o.count so.date is_dated (omega arith)) ∙ v.1, sym (all_end (leg_at a.o) c.loop-at.at a.o.count so.ratio has_ratio (omega arith)) ∙ v.2, sym (all_end (leg_at a.o) c.loop-at.at a.o.count so.sides has_sides (omega arith)) ∙ v.3)
