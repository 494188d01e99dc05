use mathlib.Core.Path.{◌≡◌, refl, sym, ◌∙◌}
use mathlib.Core.List.{[]}
use native.Mathlib.Omega.{arith}
use borrow.Author.Rules.{rules}
use lib.ListN.{get_or}
use Rattle.types.specs.View.{upto}
use Rattle.share.proofs.LoopLaws.{done}
use Rattle.records.proofs.RecordLaws.{adds_none}
use Rattle.execution.proofs.SlotLaws.{give-yes, give-no, over-end, adds-yes, adds-no}
use Rattle.execution.proofs.give.Goals as goal

pub loop-i-init : goal.loop-i-init
unfolding upto
loop-i-init c = (search rules, search rules, refl, λ longs units. adds_none _ _)

pub loop-i-preserved : goal.loop-i-preserved
loop-i-preserved c =
    let a = c.args in
    let i = c.loop-i.i in
    let v = c.loop-i.invariant in
    let x = get_or a.new.now i 0 in
    let e : get_or a.slots.now.tiers i 0 ≡ a.k = c.if-slots-i.false in (
      omega arith,
      search rules,
      give-yes a.slots.now.count i a.slots.now.tiers a.new.now (omega arith) (omega arith) (omega arith) a.k c.loop-i.gave (omega (arith, v.1)) e ∙ v.2,
      λ longs units. adds-yes a.o longs a.words.now a.slots.now.tiers units a.k i c.loop-i.gave x (omega (arith, v.1)) (c.requires.2 i (omega arith)) e (v.3 longs units) c.put_slot-w.ensures,
    )

pub loop-i-preserved-then-slots-i : goal.loop-i-preserved-then-slots-i
loop-i-preserved-then-slots-i c =
    let a = c.args in
    let i = c.loop-i.i in
    let v = c.loop-i.invariant in
    let n : get_or a.slots.now.tiers i 0 ≡ a.k → ⊥ = c.if-slots-i.true in (
      omega arith,
      v.1,
      give-no a.slots.now.count i a.slots.now.tiers a.new.now (omega arith) (omega arith) (omega arith) a.k c.loop-i.gave (omega (arith, v.1)) n ∙ v.2,
      λ longs units. adds-no a.o longs a.words.now a.slots.now.tiers units a.k i c.loop-i.gave (get_or c.loop-i.gave i 0) (omega (arith, v.1)) (c.requires.2 i (omega arith)) refl n (v.3 longs units),
    )

pub shape_of-list : goal.shape_of-list
shape_of-list c = (c.loop-i.invariant.3 [] []).sized

pub returns : goal.returns
returns c =
    let a = c.args in
    let v = c.loop-i.invariant in
    let z : c.loop-i.i ≡ a.slots.now.count = omega arith in (
      sym (done a.slots.now.count c.loop-i.i c.loop-i.gave _ (omega arith) (omega arith) (over-end a.slots.now.count c.loop-i.i (omega arith) a.k a.slots.now.tiers _ _)) ∙ v.2,
      rw (← z) v.3,
    )
