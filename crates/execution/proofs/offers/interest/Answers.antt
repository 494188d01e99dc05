use native.Mathlib.Omega.{arith}
use Rattle.types.specs.View.{derived_of}
use Rattle.execution.specs.Slots.{rules_mode}
use Rattle.execution.proofs.OpenLaws.{slots-ranked, slots-are}
use Rattle.execution.proofs.offers.interest.Goals as goal

pub returns : goal.returns
returns c =
    let a = c.args in
    let m = rules_mode a.mode in
    let ps = c.book_interest.new.slots.tiers in
    let us = c.book_interest.new.slots.units in
    let e = c.book_interest.ensures in
    let book = e.3 a.longs.now in
    let x = rw c.is_set-buy.ensures at c.tier.ensures in
    let y = rw c.is_set-buy.ensures at c.tier-2.ensures in
    let u = rw (c.key-last.ensures.0, c.from.ensures, c.legs_lead-lead.ensures, c.is_set-buy.ensures) at c.within.ensures in
    let v = rw (c.key-last.ensures.0, c.from.ensures, c.saturating_sub.ensures, c.legs_lead-lead.ensures, c.is_set-buy.ensures) at c.within-2.ensures in (
      e.0,
      rw e.0 (slots-ranked m a.longs.now a.words.now a.k (derived_of a.d) c.requires.1 ps us c.tier.result c.tier-2.result c.within.result c.within-2.result (omega (arith, e.1)) (omega (arith, e.2)) x y u v book),
      rw e.0 (slots-are m a.longs.now a.words.now a.k (derived_of a.d) c.requires.1 ps us c.tier.result c.tier-2.result c.within.result c.within-2.result (omega (arith, e.1)) (omega (arith, e.2)) x y u v book),
    )
