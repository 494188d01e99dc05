use mathlib.Core.Path.{refl, sym, ◌∙◌}
use native.Mathlib.Omega.{arith}
use Rattle.rules.specs.Strategy.{same_root, other_symbol, near_ratio}
use Rattle.types.specs.View.{leg_at}
use Rattle.opening.proofs.AskLaws.{pairs-cons, pairs_end}
use borrow.Author.Rules.{rules}
use Rattle.opening.proofs.strategy.pairs_hold.Goals as goal

pub loop-at-init : goal.loop-at-init
loop-at-init c = (search rules, (refl, refl, refl))

pub loop-at-preserved : goal.loop-at-preserved
loop-at-preserved c =
    let o = c.args.o in
    let h = c.later_hold.ensures in
    let n = c.both_hold-all.ensures in
    let so = c.loop-at.all in
    let v = c.loop-at.invariant.1 in
    (search rules, (rw (n.0, h.0) (pairs-cons (leg_at o) c.loop-at.at o.count so.root same_root (omega arith) ∙ v.0), rw (n.1, h.1) (pairs-cons (leg_at o) c.loop-at.at o.count so.symbol other_symbol (omega arith) ∙ v.1), rw (n.2, h.2) (pairs-cons (leg_at o) c.loop-at.at o.count so.ratio near_ratio (omega arith) ∙ v.2)))

pub returns : goal.returns
returns c =
    let o = c.args.o in
    let so = c.loop-at.all in
    let v = c.loop-at.invariant.1 in
    (sym (pairs_end (leg_at o) c.loop-at.at o.count so.root same_root (omega arith)) ∙ v.0, sym (pairs_end (leg_at o) c.loop-at.at o.count so.symbol other_symbol (omega arith)) ∙ v.1, sym (pairs_end (leg_at o) c.loop-at.at o.count so.ratio near_ratio (omega arith)) ∙ v.2)
