use Prim.Native.Nat.{ℕ, ◌-◌, ◌/◌, ◌≤◌, ◌<◌}
use native.Mathlib.Omega.{arith}
use native.Mathlib.Nat.{mul-le-mul_left, mul-le-mul_right, div-add-mod, div-add-mod', le-mul_of_pos_right}
use Rattle.legprices.proofs.search.at_least.Goals as goal

pub returns-then-ratio-lt2 : goal.returns-then-ratio-lt2
returns-then-ratio-lt2 c y u =
    let one : c.args.ratio ≤ 1 = omega arith in
    omega (arith, mul-le-mul_right y one)

pub overflow_add-result : goal.overflow_add-result
overflow_add-result c =
    let a = c.args in
    let x : ℕ = a.s - a.rest - 1 in
    let pos : 0 < a.ratio = omega arith in
    omega (arith, div-add-mod' x a.ratio, le-mul_of_pos_right (x / a.ratio) pos)

pub returns : goal.returns
returns c y u =
    let a = c.args in
    let x : ℕ = a.s - a.rest - 1 in
    let most : y ≤ x / a.ratio = omega arith in
    omega (arith, c.if-s-rest.false, mul-le-mul_left a.ratio most, div-add-mod x a.ratio)
