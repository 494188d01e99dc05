use mathlib.Core.Path.{◌≡◌, ap}
use Prim.Native.Nat.{ℕ, ◌+◌, ◌*◌, ◌/◌, ◌≤◌, ◌<◌}
use native.Mathlib.Decide.{ℕ_discrete}
use native.Mathlib.Omega.{arith}
use native.Mathlib.Nat.{mul-le-mul_right, div-add-mod', lt-div-mul-add, lt_of_mul-lt-mul_right}
use Rattle.legprices.proofs.search.at_most.Goals as goal

pub returns-then-ratio-lt2 : goal.returns-then-ratio-lt2
returns-then-ratio-lt2 c =
    let a = c.args in
    let over : a.s < a.ratio * a.width = omega (arith, c.if-times-s.false, c.times.ensures.0) in
    elim (ℕ_discrete a.ratio 1) [
      | yes e ↦ (omega (arith, ap (λ (t : ℕ). t * a.width) e), λ y u v. omega (arith, ap (λ (t : ℕ). t * y) e))
      | no k ↦ absurd (let z : a.ratio ≡ 0 = omega (arith, c.if-ratio-lt2.true) in omega (arith, ap (λ (t : ℕ). t * a.width) z))
    ]

pub returns : goal.returns
returns c =
    let a = c.args in
    let q : ℕ = a.s / a.ratio in
    let pos : 0 < a.ratio = omega arith in
    let over : a.s < a.ratio * a.width = omega (arith, c.if-times-s.false, c.times.ensures.0) in
    let below : q < a.width = lt_of_mul-lt-mul_right a.ratio (omega (arith, div-add-mod' a.s a.ratio)) in
    (omega arith, λ y u v. let more : q + 1 ≤ y = omega arith in omega (arith, mul-le-mul_right a.ratio more, lt-div-mul-add {a = a.s} {b = a.ratio} pos))
