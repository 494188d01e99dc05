use mathlib.Core.Path.{◌≡◌}
use native.Mathlib.Omega.{arith}
use borrow.Author.Rules.{rules}
use Rattle.state.specs.View.{open_count}
use Rattle.execution.specs.Slots.{rules_mode, book_offer}
use Rattle.execution.proofs.OpenLaws.{stand_next}
use Rattle.execution.proofs.offers.book_interest.Goals as goal

pub loop-i-init : goal.loop-i-init
loop-i-init c =
    (omega arith, c.open_count-m.ensures, search rules, search rules, c.is_set-buy.ensures, rw (← c.from.ensures) c.key-last.ensures.0, λ longs i h. absurd (omega arith))

pub loop-i-preserved : goal.loop-i-preserved
loop-i-preserved c =
    let a = c.args in
    let v = c.loop-i.invariant in (
      omega arith,
      v.1,
      search rules,
      search rules,
      v.4,
      v.5,
      λ longs. stand_next (book_offer (rules_mode a.mode) longs a.words.now a.k) c.loop-i.i c.loop-i.slots.tiers c.loop-i.slots.units c.entry_tier.result c.entry_units.result
          (omega (arith, v.1, v.2)) (omega (arith, v.1, v.3)) (rw v.4 at c.entry_tier.ensures) (rw (v.5, v.4) at c.entry_units.ensures) (v.6 longs),
    )

pub returns : goal.returns
returns c =
    let v = c.loop-i.invariant in
    let z : c.loop-i.i ≡ open_count c.args.words.now = omega (arith, v.1) in
    (omega (arith, v.1), v.2, v.3, rw z at v.6)
