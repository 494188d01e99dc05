use native.Mathlib.Omega.{arith}
use borrow.Author.Count.{below_more}
use lib.ListN.{get_or}
use Rattle.types.specs.View.{no_leg}
use Rattle.opening.specs.Stored.{HasLeg}
use borrow.Author.Rules.{rules}
use Rattle.opening.proofs.put_legs.Goals as goal

pub loop-k-init : goal.loop-k-init
loop-k-init c = (omega arith, (omega arith), λ i h. absurd (omega arith))

pub loop-k-preserved : goal.loop-k-preserved
loop-k-preserved c =
    let a = c.args in
    let v = c.loop-k.invariant in
    let s = c.put_leg.ensures in
    (omega arith, search rules, below_more (λ i. HasLeg c.put_leg.new.words i (get_or a.o.legs i no_leg)) c.loop-k.k (λ i h. s.before i (get_or a.o.legs i no_leg) h (v.2 i h)) s.here)

pub returns : goal.returns
returns c = λ k h. c.loop-k.invariant.2 k (omega arith)
