-- Numbers by their quotient and remainder: none of them passes 64 bits.
use mathlib.Core.Path.{◌≡◌, ap, ◌∙◌}
use Prim.Native.Nat.{ℕ, suc, ◌+◌, ◌-◌, ◌*◌, ◌/◌, ◌%◌, ◌≤◌, ◌<◌}
use native.Mathlib.Nat.{div-add-mod', div-eq_of_lt, mul-add-div_right, mod-eq_of_lt, mul-add-mod_self_right, mul-le-mul, mul-le-mul_left, mul-le-mul_right, mul-lt-mul_of_pos_right}
use native.Mathlib.Decide.{dec_lt, dec_le}
use native.Mathlib.Omega.{arith}
use borrow.Author.Tests.{le-ltb, lt-ltb}
use lib.IntN.{ℤ, pos, negsuc, sub_ℕ}
use Rattle.rules.specs.Average.{floor, rest}
use Rattle.rules.proofs.SignedLaws.{IsDiff}
use Rattle.average.specs.Parts.{most_units, Divides, Fits}

-- a quotient of a number that fits
pub quotient_fits : (units q r : ℕ) → Fits units (q * units + r) → q < 18_446_744_073_709_551_616
quotient_fits units q r h =
    elim (dec_lt q 18_446_744_073_709_551_616) [
      | yes l ↦ l
      | no n ↦ absurd (omega (arith, mul-le-mul_right {m = 18_446_744_073_709_551_616} {n = q} units (omega arith)))
    ]

-- a number of 64 bits, no more times than the units
pub fits_times : (units x k : ℕ) → 0 < units → x < 18_446_744_073_709_551_616 → k ≤ units → Fits units (x * k)
fits_times units x k p h l = omega (arith, mul-le-mul_left x l, mul-lt-mul_of_pos_right h p)

-- a remainder taken 65,536 times
pub rest-fits : (units r k : ℕ) → Divides units → r < units → k ≤ 65_536 → r * k < 18_446_744_073_709_551_616
rest-fits units r k d h l = omega (arith, mul-le-mul {n₁ = r} {m₁ = k} {n₂ = most_units} {m₂ = 65_536} (omega (arith, d.1)) l)

-- ---- a sum

pub sum_fits : (units p r q s : ℕ) → Fits units (p * units + r + (q * units + s)) → p + q < 18_446_744_073_709_551_616
sum_fits units p r q s h = quotient_fits units (p + q) (r + s) (omega arith)

pub carry_fits : (units p r q s : ℕ) → units ≤ r + s → Fits units (p * units + r + (q * units + s)) → p + q + 1 < 18_446_744_073_709_551_616
carry_fits units p r q s l h = quotient_fits units (p + q + 1) (r + s - units) (omega arith)

-- ---- a product

pub taken : (units q r k : ℕ) → 0 < units → (q * k + r * k / units) * units + r * k % units ≡ (q * units + r) * k
taken units q r k h =
    let z : q * k * units ≡ q * units * k = omega arith in
    omega (arith, div-add-mod' (r * k) units)

pub product_fits : (units q r k : ℕ) → Fits units ((q * units + r) * k) → q * k < 18_446_744_073_709_551_616
product_fits units q r k h =
    let z : q * k * units ≡ q * units * k = omega arith in
    quotient_fits units (q * k) (r * k) (omega arith)

pub taken-fits : (units q r k : ℕ) → 0 < units → Fits units ((q * units + r) * k) → q * k + r * k / units < 18_446_744_073_709_551_616
taken-fits units q r k p h = quotient_fits units (q * k + r * k / units) (r * k % units) (omega (arith, taken units q r k p))

-- ---- a price, 65,536 times as often as fits, and the times that are left

module _ (units p n : ℕ) (h : 0 < units) (l : p < 18_446_744_073_709_551_616) (k : n ≤ units) where
  pub first_fits : (x : ℕ) → x ≡ p → Fits units (x * (n / 65_536))
  first_fits x e = rw e (fits_times units p (n / 65_536) h l (omega arith))

  pub high_fits : (x y : ℕ) → x ≡ p → y ≡ x * (n / 65_536) → Fits units (y * 65_536)
  high_fits x y e f =
      let z : p * (n / 65_536) * 65_536 ≡ p * (n / 65_536 * 65_536) = omega arith in
      rw (f, e, z) (fits_times units p (n / 65_536 * 65_536) h l (omega arith))

  pub low_fits : (x : ℕ) → x ≡ p → Fits units (x * (n % 65_536))
  low_fits x e = rw e (fits_times units p (n % 65_536) h l (omega arith))

  pub both : (x y high low : ℕ) → x ≡ p → y ≡ x * (n / 65_536) → high ≡ y * 65_536 → low ≡ x * (n % 65_536) → high + low ≡ p * n
  both x y high low e f g d =
      let z : p * n ≡ p * (n / 65_536 * 65_536 + n % 65_536) = ap (λ (t : ℕ). p * t) (omega arith) in
      rw (g, d, f, e) (omega (arith, z))

  pub both-fit : (x : ℕ) → x ≡ p * n → Fits units x
  both-fit x e = rw e (fits_times units p n h l k)

-- ---- a sum with a record's price × units

pub none_more : (x p u : ℕ) → u ≡ 0 → x ≡ x + p * u
none_more x p u e = rw e (omega arith)

pub one_more : (x y price p given u : ℕ) → price ≡ p → given ≡ u → y ≡ price * given → x + y ≡ x + p * u
one_more x y price p given u e f g = rw (g, e, f)

-- ---- a difference divided

div_is : (a n x r : ℕ) → r < n → a ≡ x * n + r → (a / n ≡ x) × (a % n ≡ r)
div_is a n x r h e =
    let p : 0 < n = omega arith in
    let z : r / n ≡ 0 = div-eq_of_lt h in
    (ap (λ (t : ℕ). t / n) e ∙ mul-add-div_right p x r ∙ omega arith, ap (λ (t : ℕ). t % n) e ∙ mul-add-mod_self_right x n r ∙ mod-eq_of_lt h)

-- a number less k for each of n: the quotient falls by k, and the remainder stays
pub parts_of_diff : (z : ℤ) (n q r k : ℕ) → r < n → IsDiff z (q * n + r) (k * n) → (floor z n ≡ sub_ℕ q k) × (rest z n ≡ r)
parts_of_diff (pos a) n q r k h e =
    let l : k ≤ q = elim (dec_le k q) [
      | yes y ↦ y
      | no m ↦ absurd (omega (arith, mul-le-mul_right n (let s : suc q ≤ k = omega arith in s)))
    ] in
    let s : q * n ≡ (q - k) * n + k * n = (let y : q ≡ (q - k) + k = omega arith in ap (λ (t : ℕ). t * n) y ∙ omega arith) in
    let w : (a / n ≡ q - k) × (a % n ≡ r) = div_is a n (q - k) r h (omega arith) in
    (rw (le-ltb q k l) (ap pos w.0), w.1)
parts_of_diff (negsuc a) n q r k h e =
    let l : q < k = elim (dec_lt q k) [
      | yes y ↦ y
      | no m ↦ absurd (omega (arith, mul-le-mul_right n (let s : k ≤ q = omega arith in s)))
    ] in
    let s : k * n ≡ (k - suc q) * n + (q * n + n) = (let y : k ≡ (k - suc q) + suc q = omega arith in ap (λ (t : ℕ). t * n) y ∙ omega arith) in
    let w : (a / n ≡ k - suc q) × (a % n ≡ n - 1 - r) = div_is a n (k - suc q) (n - 1 - r) (omega arith) (omega arith) in
    (rw (lt-ltb q k l) (ap negsuc w.0), omega (arith, w.1))
