use mathlib.Core.Path.{refl, sym, ◌∙◌}
use native.Mathlib.Omega.{arith}
use Rattle.rules.specs.Strategy.{same_root, other_symbol, near_ratio}
use Rattle.types.specs.View.{leg_at}
use Rattle.opening.proofs.AskLaws.{all_cons, all_end}
use borrow.Author.Rules.{rules}
use Rattle.opening.proofs.strategy.later_hold.Goals as goal

pub loop-at-init : goal.loop-at-init
loop-at-init c = (search rules, (refl, refl, refl))

pub loop-at-preserved : goal.loop-at-preserved
loop-at-preserved c =
    let a = c.args in
    let h = c.holds.ensures in
    let n = c.both_hold-all.ensures in
    let so = c.loop-at.all in
    let v = c.loop-at.invariant.1 in
    (search rules, (rw (n.0, h.0) (all_cons (leg_at a.o) c.loop-at.at a.o.count so.root (same_root (leg_at a.o a.k)) (omega arith) ∙ v.0), rw (n.1, h.1) (all_cons (leg_at a.o) c.loop-at.at a.o.count so.symbol (other_symbol (leg_at a.o a.k)) (omega arith) ∙ v.1), rw (n.2, h.2) (all_cons (leg_at a.o) c.loop-at.at a.o.count so.ratio (near_ratio (leg_at a.o a.k)) (omega arith) ∙ v.2)))

pub returns : goal.returns
returns c =
    let a = c.args in
    let so = c.loop-at.all in
    let v = c.loop-at.invariant.1 in
    (sym (all_end (leg_at a.o) c.loop-at.at a.o.count so.root (same_root (leg_at a.o a.k)) (omega arith)) ∙ v.0, sym (all_end (leg_at a.o) c.loop-at.at a.o.count so.symbol (other_symbol (leg_at a.o a.k)) (omega arith)) ∙ v.1, sym (all_end (leg_at a.o) c.loop-at.at a.o.count so.ratio (near_ratio (leg_at a.o a.k)) (omega arith)) ∙ v.2)
