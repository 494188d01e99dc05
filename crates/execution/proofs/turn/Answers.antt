use mathlib.Core.Path.{refl, ap, sym, ◌∙◌}
use Prim.Native.Nat.{◌≤◌}
use native.Mathlib.Omega.{arith}
use borrow.Author.Rules.{rules}
use lib.ListN.{take}
use lib.Seq.{length-take-le}
use Rattle.rules.specs.Basics.{zeros}
use Rattle.execution.specs.Slots.{offers_in}
use Rattle.execution.specs.Walk.{no_tier}
use Rattle.execution.proofs.NextLaws.{least_low}
use Rattle.execution.proofs.SlotLaws.{under_none, spots-are, sizes-are, cleared}
use Rattle.execution.proofs.GrantLaws.{walk_start, walk_end, walk_none, walk-all, walk-part}
use Rattle.execution.proofs.turn.Goals as goal

pub loop-rest-init : goal.loop-rest-init
loop-rest-init c =
    let a = c.args in
    let n = a.slots.now.count in
    let us = a.slots.now.units in (
      search rules,
      refl,
      omega arith,
      omega (arith, c.from-rest.ensures),
      λ longs. rw c.from-rest.ensures (walk_start a.o.number a.o.id a.o.units (offers_in longs a.words.now a.o.legs a.slots.now.tiers us n) (take n a.gave.now) a.list.now a.at
          (cleared n a.gave.now (take n us) (length-take-le n us (omega arith)) (omega arith) c.requires.1.1 ∙ ap zeros (sym (sizes-are longs a.words.now a.o.legs a.slots.now.tiers us n (omega arith))))),
    )

pub returns-then-k-ge-NONE : goal.returns-then-k-ge-NONE
returns-then-k-ge-NONE c =
    let a = c.args in
    let n = a.slots.now.count in
    let ps = a.slots.now.tiers in
    let us = a.slots.now.units in
    let w = a.words.now in
    let v = c.loop-rest.invariant in
    let e = c.nearest-k.ensures in
    λ longs. walk_none a.o.number a.o.id a.o.units (offers_in longs w a.o.legs ps us n) c.loop-rest.b c.loop-rest.rest c.nearest-k.result (take n ps) (take n us) (take n c.loop-rest.gave) a.list.now a.at c.loop-rest.list c.loop-rest.w
    v.2 (spots-are longs w a.o.legs ps us n (omega arith) c.requires.0.2) (sizes-are longs w a.o.legs ps us n (omega arith)) e.0 (v.4 longs) c.if-k-ge-NONE.true (under_none n ps c.requires.0.2 e.1)

pub returns-then-rest-total : goal.returns-then-rest-total
returns-then-rest-total c =
    let a = c.args in
    let n = a.slots.now.count in
    let ps = a.slots.now.tiers in
    let us = a.slots.now.units in
    let w = a.words.now in
    let v = c.loop-rest.invariant in
    let e = c.nearest-k.ensures in
    let g = c.give_part-w.ensures in
    λ longs. walk-part a.o.number a.o.id a.o.units (offers_in longs w a.o.legs ps us n) c.loop-rest.b c.loop-rest.rest c.nearest-k.result (take n ps) (take n us) (take n c.loop-rest.gave) a.list.now a.at c.loop-rest.list c.loop-rest.w
    v.2 (spots-are longs w a.o.legs ps us n (omega arith) c.requires.0.2) (sizes-are longs w a.o.legs ps us n (omega arith)) e.0 (v.4 longs) c.if-k-ge-NONE.false
    c.total_at-total.result (take n c.give_part-w.new.gave) c.give_part-w.new.list c.give_part-w.result c.total_at-total.ensures c.if-rest-total.true g.0 (g.1 longs us)

pub loop-rest-smaller : goal.loop-rest-smaller
loop-rest-smaller c =
    let a = c.args in
    let k = c.nearest-k.result in
    let low : c.loop-rest.b ≤ k = least_low c.loop-rest.b no_tier k (take a.slots.now.count a.slots.now.tiers) (take a.slots.now.count a.slots.now.units) c.nearest-k.ensures.0 c.loop-rest.invariant.2 in
    omega (arith, c.if-k-ge-NONE.false)

pub loop-rest-preserved : goal.loop-rest-preserved
loop-rest-preserved c =
    let a = c.args in
    let n = a.slots.now.count in
    let ps = a.slots.now.tiers in
    let us = a.slots.now.units in
    let w = a.words.now in
    let v = c.loop-rest.invariant in
    let e = c.nearest-k.ensures in
    let g = c.give-w.ensures in (
      search rules,
      search rules,
      omega (arith, c.if-k-ge-NONE.false),
      omega (arith, v.3),
      λ longs. walk-all a.o.number a.o.id a.o.units (offers_in longs w a.o.legs ps us n) c.loop-rest.b c.loop-rest.rest c.nearest-k.result (take n ps) (take n us) (take n c.loop-rest.gave) a.list.now a.at c.loop-rest.list c.loop-rest.w
          v.2 (spots-are longs w a.o.legs ps us n (omega arith) c.requires.0.2) (sizes-are longs w a.o.legs ps us n (omega arith)) e.0 (v.4 longs) c.if-k-ge-NONE.false
          c.total_at-total.result (take n c.give-w.new.gave) c.give-w.new.list c.give-w.result c.total_at-total.ensures c.if-rest-total.false g.0 (g.1 longs us),
    )

pub returns : goal.returns
returns c =
    let a = c.args in
    let v = c.loop-rest.invariant in
    λ longs. walk_end a.o.number a.o.id a.o.units (offers_in longs a.words.now a.o.legs a.slots.now.tiers a.slots.now.units a.slots.now.count) c.loop-rest.b c.loop-rest.rest (take a.slots.now.count c.loop-rest.gave) a.list.now a.at c.loop-rest.list c.loop-rest.w (omega arith) (v.4 longs)
