use mathlib.Core.Path.{ap, sym, ◌∙◌}
use Prim.Native.Nat.{ℕ, ◌+◌, ◌-◌, ◌*◌, ◌≤◌}
use native.Mathlib.Omega.{arith}
use borrow.Author.Rules.{rules}
use lib.ListN.{get_or, take, set}
use Rattle.rules.specs.LegPrices.{LegPrices}
use Rattle.types.specs.View.{from}
use Rattle.state.specs.View.{flag}
use Rattle.legprices.specs.Sums.{spans_from}
use Rattle.legprices.specs.Ranges.{range_at}
use Rattle.legprices.specs.Found.{counts, found, first, fits, behind}
use Rattle.legprices.proofs.SearchLaws.{greatest-step, part-most, found-hit, found-miss, behind_none, behind_more, all-priced, none_left}
use Rattle.legprices.proofs.search.found.Goals as goal

pub loop-i-init : goal.loop-i-init
loop-i-init c = (omega arith, search rules, search rules, behind_none _)

pub times-rest-requires : goal.times-rest-requires
times-rest-requires c =
    (omega (arith, c.from-ratio.ensures, c.requires.0.0.ratio c.loop-i.i), omega (arith, c.from-width.ensures))

pub overflow_sub-rest : goal.overflow_sub-rest
overflow_sub-rest c =
    let a = c.args in
    omega (arith, (c.times-rest.ensures.0 ∙ (λ j. c.from-ratio.ensures j * c.from-width.ensures j)), greatest-step a.legs.now c.loop-i.i (omega arith), c.loop-i.invariant.2)

pub lowest-requires : goal.lowest-requires
lowest-requires c =
    let a = c.args in
    let p = c.requires in (
      p.0,
      omega arith,
      omega arith,
      omega (arith, c.from-ratio.ensures, p.0.0.ratio c.loop-i.i),
      omega (arith, c.from-width.ensures, p.0.0.width c.loop-i.i),
      omega (arith, (c.times-rest.ensures.0 ∙ (λ j. c.from-ratio.ensures j * c.from-width.ensures j)), greatest-step a.legs.now c.loop-i.i (omega arith), c.loop-i.invariant.2),
    )

pub returns-in_default : goal.returns-in_default
returns-in_default c =
    let a = c.args in
    let i = c.loop-i.i in
    let w = c.from-width.ensures in
    let e = sym (λ j. w j + 1) ∙ sym c.in_default.ensures ∙ (λ j. first (w j + 1) 0 (fits (c.is_set-up.ensures j) (c.from-ratio.ensures j) (w j) (spans_from a.legs.now (i + 1)) c.loop-i.s)) in
    sym (ap (behind (take i c.loop-i.prices)) (found-miss a.legs.now i (omega arith) c.loop-i.s (get_or a.legs.now.widths i 0 + 1) e (omega arith))) ∙ c.loop-i.invariant.3

pub overflow_add-prices : goal.overflow_add-prices
overflow_add-prices c =
    omega (arith, c.from.ensures, c.in-Some.ensures.1, c.from-width.ensures)

pub taken-s-requires : goal.taken-s-requires
taken-s-requires c =
    let p = c.requires.0.0 in
    (omega (arith, c.from-ratio.ensures, p.ratio c.loop-i.i), omega (arith, c.from-width.ensures, p.width c.loop-i.i), c.in-Some.ensures.1)

pub overflow_sub-s : goal.overflow_sub-s
overflow_sub-s c =
    let a = c.args in
    let u : c.in-Some.x ≤ get_or a.legs.now.widths c.loop-i.i 0 = omega (arith, c.from-width.ensures, c.in-Some.ensures.1) in
    omega (arith, (c.taken-s.ensures ∙ (λ j. c.from-ratio.ensures j * counts (c.is_set-up.ensures j) (c.from-width.ensures j) c.in-Some.x)), part-most a.legs.now c.loop-i.i (omega arith) c.loop-i.s c.in-Some.x (c.in-Some.ensures.0 ∙ (λ j. first (c.from-width.ensures j + 1) 0 (fits (c.is_set-up.ensures j) (c.from-ratio.ensures j) (c.from-width.ensures j) (spans_from a.legs.now (c.loop-i.i + 1)) c.loop-i.s))) u)

pub loop-i-preserved : goal.loop-i-preserved
loop-i-preserved c =
    let a = c.args in
    let i = c.loop-i.i in
    let x = c.in-Some.x in
    let u : x ≤ get_or a.legs.now.widths i 0 = omega (arith, c.from-width.ensures, c.in-Some.ensures.1) in
    let later : ℕ → LegPrices = found (from (range_at a.legs.now) (i + 1) a.legs.now.count) in (
      omega arith,
      search rules,
      omega (arith, (c.times-rest.ensures.0 ∙ (λ j. c.from-ratio.ensures j * c.from-width.ensures j)), greatest-step a.legs.now c.loop-i.i (omega arith), c.loop-i.invariant.2),
      (λ j. behind (take (i + 1) (set c.loop-i.prices i (c.from.ensures j + x))) (later (c.loop-i.s - (c.taken-s.ensures ∙ (λ j. c.from-ratio.ensures j * counts (c.is_set-up.ensures j) (c.from-width.ensures j) c.in-Some.x)) j)))
          ∙ behind_more i c.loop-i.prices (get_or a.legs.now.bids i 0 + x)
          (later (c.loop-i.s - get_or a.legs.now.ratios i 0 * counts (flag (get_or a.legs.now.plus i 0)) (get_or a.legs.now.widths i 0) x)) (omega arith)
          ∙ ap (behind (take i c.loop-i.prices)) (sym (found-hit a.legs.now c.loop-i.i (omega arith) c.loop-i.s x (c.in-Some.ensures.0 ∙ (λ j. first (c.from-width.ensures j + 1) 0 (fits (c.is_set-up.ensures j) (c.from-ratio.ensures j) (c.from-width.ensures j) (spans_from a.legs.now (c.loop-i.i + 1)) c.loop-i.s))) u))
          ∙ c.loop-i.invariant.3,
    )

pub returns-then-s-eq0 : goal.returns-then-s-eq0
returns-then-s-eq0 c =
    let a = c.args in
    all-priced a.legs.now c.loop-i.i (omega arith) (omega arith) c.loop-i.prices c.loop-i.s c.if-s-eq0.true ∙ c.loop-i.invariant.3

pub returns : goal.returns
returns c =
    let a = c.args in
    none_left a.legs.now c.loop-i.i (omega arith) (omega arith) c.loop-i.prices c.loop-i.s c.if-s-eq0.false ∙ c.loop-i.invariant.3
