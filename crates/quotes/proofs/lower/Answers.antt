use native.Mathlib.Omega.{arith}
use Rattle.quotes.proofs.QuoteLaws.{lowering-start, lowering-step, lowering-end}
use borrow.Author.Rules.{rules}
use Rattle.quotes.proofs.lower.Goals as goal

pub loop-k-init : goal.loop-k-init
loop-k-init c = let a = c.args in (omega arith, c.leg_count-n.ensures, search rules, lowering-start a.ask a.units a.words.now)

pub loop-k-preserved : goal.loop-k-preserved
loop-k-preserved c =
    let a = c.args in
    let v = c.loop-k.invariant in
    (omega arith, v.1, search rules, lowering-step a.ask a.units a.words.now c.loop-k.words c.lower_leg.new.words c.loop-k.k (omega arith) v.3 c.lower_leg.ensures)

pub returns : goal.returns
returns c =
    let a = c.args in
    lowering-end a.ask a.units a.words.now c.loop-k.words c.loop-k.k (omega arith) c.loop-k.invariant.3
