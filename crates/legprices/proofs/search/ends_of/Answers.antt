use mathlib.Core.Path.{◌≡◌, ◌∙◌}
use Prim.Native.Nat.{◌+◌, ◌*◌, ◌≤◌, ◌<◌}
use native.Mathlib.Omega.{arith}
use lib.ListN.{get_or}
use Rattle.rules.specs.Basics.{pick}
use Rattle.state.specs.View.{flag}
use Rattle.legprices.proofs.SearchLaws.{paid-step, got-step, greatest-step, paid-end, got-end, greatest-end}
use Rattle.legprices.proofs.search.ends_of.Goals as goal

pub loop-i-init : goal.loop-i-init
loop-i-init c = (omega arith, omega arith, omega arith, omega arith, omega arith, omega arith, omega arith)

pub times-requires : goal.times-requires
times-requires c =
    (omega (arith, c.from-ratio.ensures, c.requires.ratio c.loop-i.i), omega (arith, c.from-bid.ensures))

pub times-requires-in-loop-i : goal.times-requires-in-loop-i
times-requires-in-loop-i c =
    (omega (arith, c.from-ratio.ensures, c.requires.ratio c.loop-i.i), omega (arith, c.from-bid.ensures, c.from-width.ensures))

pub times-most-requires : goal.times-most-requires
times-most-requires c =
    (omega (arith, c.from-ratio.ensures, c.requires.ratio c.loop-i.i), omega (arith, c.from-width.ensures))

pub loop-i-preserved : goal.loop-i-preserved
loop-i-preserved c =
    let a = c.args in
    let i = c.loop-i.i in
    let up = c.is_set-up.ensures in
    let ratio = c.from-ratio.ensures in
    let bid = c.from-bid.ensures in
    let width = c.from-width.ensures in
    let paid : c.either-paid.result ≡ pick (flag (get_or a.legs.now.plus i 0)) (get_or a.legs.now.ratios i 0 * get_or a.legs.now.bids i 0) 0 =
    c.either-paid.ensures.0 ∙ (λ j. pick (up j) (c.times.ensures.0 j) 0) ∙ (λ j. pick (flag (get_or a.legs.now.plus i 0)) (ratio j * bid j) 0) in
    let got : c.either-got.result ≡ pick (flag (get_or a.legs.now.plus i 0)) 0 (get_or a.legs.now.ratios i 0 * (get_or a.legs.now.bids i 0 + get_or a.legs.now.widths i 0)) =
    c.either-got.ensures.0 ∙ (λ j. pick (up j) 0 (c.times-in-loop-i.ensures.0 j)) ∙ (λ j. pick (flag (get_or a.legs.now.plus i 0)) 0 (ratio j * (bid j + width j))) in
    let most : c.times-most.result ≡ get_or a.legs.now.ratios i 0 * get_or a.legs.now.widths i 0 = c.times-most.ensures.0 ∙ (λ j. ratio j * width j) in
    let h : i < a.legs.now.count = omega arith in
    let v = c.loop-i.invariant in (
      omega arith,
      omega (arith, v.1, c.either-paid.ensures.1, c.times.ensures.1),
      omega (arith, paid, paid-step a.legs.now i h, v.2),
      omega (arith, v.3, c.either-got.ensures.1, c.times-in-loop-i.ensures.1),
      omega (arith, got, got-step a.legs.now i h, v.4),
      omega (arith, v.5, c.times-most.ensures.1),
      omega (arith, most, greatest-step a.legs.now i h, v.6),
    )

pub returns : goal.returns
returns c =
    let a = c.args in
    let i = c.loop-i.i in
    let h : a.legs.now.count ≤ i = omega arith in
    let v = c.loop-i.invariant in (
      omega (arith, paid-end a.legs.now i h, v.2),
      omega (arith, v.1),
      omega (arith, got-end a.legs.now i h, v.4),
      omega (arith, v.3),
      omega (arith, greatest-end a.legs.now i h, v.6),
    )
