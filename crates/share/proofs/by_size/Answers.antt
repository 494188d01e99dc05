use mathlib.Core.Path.{◌≡◌, refl, ◌∙◌}
use Prim.Native.Nat.{ℕ, ◌+◌, ◌-◌, ◌≤◌, ◌<◌}
use native.Mathlib.Omega.{arith}
use lib.ListN.{take}
use lib.Seq.{drop-set-lt}
use borrow.Author.Rules.{rules}
use Rattle.rules.specs.Basics.{sum}
use Rattle.share.proofs.LeftoverLaws.{start_is, floors_fit, some_n, share_step, share_sum, share_most, share_end}
use Rattle.share.proofs.by_size.Goals as goal

down : (c : goal.After-total)
    → sum (take c.args.n c.rounded.new.out) ≤ c.args.amount
down c =
    let r = c.rounded in
    floors_fit c.args.amount c.args.all (take c.args.n c.args.sizes.now) (take c.args.n r.new.out) r.ensures.0 c.requires.2 c.requires.1

pub overflow_sub-left : goal.overflow_sub-left
overflow_sub-left c = omega (arith, down c, c.total.ensures)

pub loop-given-init : goal.loop-given-init
loop-given-init c =
    let n = c.args.n in
    let all : c.args.amount - c.total.result - 0 ≡ c.args.amount - c.total.result = omega arith in
    let r = c.rounded in (
      omega arith,
      c.requires.0,
      some_n n c.args.all c.args.sizes.now c.requires.2 c.requires.1,
      search rules,
      search rules,
      omega (arith, down c, c.total.ensures),
      rw all (start_is c.args.amount c.args.all c.total.result (take n c.args.sizes.now) (take n r.new.out) (take n r.new.rest) c.requires.2
          r.ensures.0 r.ensures.1 c.total.ensures),
      refl,
    )

pub overflow_add-out : goal.overflow_add-out
overflow_add-out c =
    let L = c.loop-given in
    omega (arith, share_most c.args.n c.first_max-i.result L.out (c.first_max-i.ensures.1 L.invariant.2), L.invariant.5)

pub loop-given-preserved : goal.loop-given-preserved
loop-given-preserved c =
    let L = c.loop-given in
    let n = c.args.n in
    let i = c.first_max-i.result in
    let j : i < n = c.first_max-i.ensures.1 L.invariant.2 in
    let left : ℕ = c.args.amount - c.total.result - L.given in
    let p : 0 < left = omega arith in
    let next : c.args.amount - c.total.result - (L.given + 1) ≡ left - 1 = omega arith in (
      omega arith,
      L.invariant.1,
      L.invariant.2,
      search rules,
      search rules,
      omega (arith, share_sum n i L.out (omega arith) j, L.invariant.5, p),
      rw next (share_step n i left L.out L.rest (omega arith) (omega arith) j c.first_max-i.ensures.0 p) ∙ L.invariant.6,
      drop-set-lt n L.out i _ j ∙ L.invariant.7,
    )

pub returns : goal.returns
returns c =
    let L = c.loop-given in
    let n = c.args.n in
    (share_end n (c.args.amount - c.total.result - L.given) L.out L.rest (omega arith) (omega arith) (omega arith) ∙ L.invariant.6, L.invariant.7 ∙ c.rounded.ensures.2)
