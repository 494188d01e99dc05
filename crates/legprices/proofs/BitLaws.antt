-- The bits of a word that is moved or joined with another.
use mathlib.Core.Path.{◌≡◌, refl, sym, ap, ap₂, ◌∙◌}
use mathlib.Core.Bool.{Bool, false, ◌&&◌, ◌||◌, or-false}
use Prim.Native.Nat.{ℕ, zero, suc, ◌+◌, ◌-◌, ◌*◌, ◌/◌, ◌%◌, ◌^◌, ◌≤◌, ◌<◌}
use native.Mathlib.Nat.{mod-lt, zero-lt-suc, zero-div, div-eq_of_lt, lt_of_lt_of_le, mul_assoc}
use native.Mathlib.Decide.{dec_le}
use native.Mathlib.Omega.{arith}
use borrow.Author.Tests.{le-leb, lt-leb}
use lib.Dec.{eqb, leb}
use lib.Bits.{bit_or, or_shr, or_mod, shifted_even}
use lib.Pow.{pow-add, pow_mono, shl-shr, shr-shr, field, mod-mod-pow}
use Rattle.legprices.specs.Tables.{bit, Merged}

-- ---- one of two bits

digit_or : (u v : ℕ) → u < 2 → v < 2 → eqb (bit_or u v) 1 ≡ (eqb u 1 || eqb v 1)
digit_or zero zero h k = refl
digit_or zero (suc zero) h k = refl
digit_or zero (suc (suc v)) h k = absurd (omega arith)
digit_or (suc zero) zero h k = refl
digit_or (suc zero) (suc zero) h k = refl
digit_or (suc zero) (suc (suc v)) h k = absurd (omega arith)
digit_or (suc (suc u)) v h k = absurd (omega arith)

bit-or : (a b t : ℕ) → bit (bit_or a b) t ≡ (bit a t || bit b t)
bit-or a b t =
    ap (λ (x : ℕ). eqb (x % 2) 1) (or_shr a b t) ∙ ap (λ (x : ℕ). eqb x 1) (or_mod (a / 2 ^ t) (b / 2 ^ t) 1)
    ∙ digit_or (a / 2 ^ t % 2) (b / 2 ^ t % 2) (mod-lt (a / 2 ^ t) (zero-lt-suc 1)) (mod-lt (b / 2 ^ t) (zero-lt-suc 1))

-- ---- a bit of a word that is moved

pub bit-zero : (t : ℕ) → bit 0 t ≡ false
bit-zero t = ap (λ (x : ℕ). eqb (x % 2) 1) (zero-div (2 ^ t))

pub bit_past : (x k t : ℕ) → x < 2 ^ k → k ≤ t → bit x t ≡ false
bit_past x k t h l = ap (λ (y : ℕ). eqb (y % 2) 1) (div-eq_of_lt (lt_of_lt_of_le h (pow_mono l)))

-- up: what is moved past the word's end is lost
bit_cut : (x w t : ℕ) → t < w → bit (x % 2 ^ w) t ≡ bit x t
bit_cut x w t h =
    let e : w ≡ w - t - 1 + 1 + t = omega arith in
    ap (λ (k : ℕ). bit (x % 2 ^ k) t) e ∙ ap (λ (y : ℕ). eqb (y % 2) 1) (field x (w - t - 1 + 1) t) ∙ ap (λ (y : ℕ). eqb y 1) (mod-mod-pow (x / 2 ^ t) (w - t - 1) 1)

bit_up : (x m t : ℕ) → bit (x * 2 ^ m) t ≡ (leb m t && bit x (t - m))
bit_up x m t =
    elim (dec_le m t) [
      | yes l ↦
          let e : t ≡ m + (t - m) = omega arith in
          rw (le-leb m t l) (ap (λ (y : ℕ). eqb (y % 2) 1) (ap (λ (k : ℕ). x * 2 ^ m / 2 ^ k) e ∙ sym (shr-shr (x * 2 ^ m) m (t - m)) ∙ ap (λ (y : ℕ). y / 2 ^ (t - m)) (shl-shr x m)))
      | no n ↦
          let e : m ≡ suc (m - t - 1) + t = omega arith in
          let p : x * 2 ^ m ≡ x * 2 ^ suc (m - t - 1) * 2 ^ t = ap (λ (k : ℕ). x * 2 ^ k) e ∙ ap (λ (y : ℕ). x * y) (pow-add 2 (suc (m - t - 1)) t) ∙ sym (mul_assoc x (2 ^ suc (m - t - 1)) (2 ^ t)) in
          rw (lt-leb m t (omega arith))
          (ap (λ (y : ℕ). eqb (y / 2 ^ t % 2) 1) p ∙ ap (λ (y : ℕ). eqb (y % 2) 1) (shl-shr (x * 2 ^ suc (m - t - 1)) t) ∙ ap (λ (y : ℕ). eqb y 1) (shifted_even x (m - t - 1)))
    ]

-- down
bit_down : (x k t : ℕ) → bit (x / 2 ^ k) t ≡ bit x (k + t)
bit_down x k t = ap (λ (y : ℕ). eqb (y % 2) 1) (shr-shr x k t)

-- ---- a word with two others moved up into it

pub merged_bits : (word low high m : ℕ) → m < 64 → low < 2 ^ 64 → Merged word low high m (bit_or (bit_or word ((high * 2 ^ m) % 2 ^ 64)) (low / 2 ^ 1 / 2 ^ (63 - m)))
merged_bits word low high m h l t j =
    let up : bit ((high * 2 ^ m) % 2 ^ 64) t ≡ (leb m t && bit high (t - m)) = bit_cut (high * 2 ^ m) 64 t j ∙ bit_up high m t in
    let e : 1 + (63 - m + t) ≡ t + 64 - m = omega arith in
    let down : bit (low / 2 ^ 1 / 2 ^ (63 - m)) t ≡ bit low (t + 64 - m) = bit_down (low / 2 ^ 1) (63 - m) t ∙ bit_down low 1 (63 - m + t) ∙ ap (bit low) e in
    bit-or (bit_or word ((high * 2 ^ m) % 2 ^ 64)) (low / 2 ^ 1 / 2 ^ (63 - m)) t
    ∙ ap₂ ◌||◌ (bit-or word ((high * 2 ^ m) % 2 ^ 64) t ∙ ap (λ (b : Bool). bit word t || b) up) down
    ∙ elim (dec_le m t) [
      | yes i ↦ rw (le-leb m t i, bit_past low 64 (t + 64 - m) l (omega arith)) (or-false (bit word t || bit high (t - m)))
      | no n ↦ rw (lt-leb m t (omega arith)) (ap (λ (b : Bool). b || bit low (t + 64 - m)) (or-false (bit word t)))
    ]
