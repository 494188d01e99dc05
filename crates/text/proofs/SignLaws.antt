-- The digits of a number below zero, behind a minus sign.
use mathlib.Core.Path.{◌≡◌, refl}
use mathlib.Core.Bool.{true, false}
use mathlib.Core.List.{◌∷◌}
use Prim.Native.Nat.{ℕ}
use native.Mathlib.Omega.{arith}
use borrow.Author.Tests.{ltb-true}
use lib.IntN.{ℤ, pos, negsuc, nat_abs}
use lib.Signed.{lt_z}
use Rattle.text.specs.Text.{digits, signed_digits}

pub minus : (v : ℤ) → lt_z v (pos 0) ≡ true → signed_digits v ≡ 45 ∷ digits (nat_abs v)
minus (pos n) h = absurd (omega (arith, ltb-true n 0 h))
minus (negsuc k) h = refl

pub no_minus : (v : ℤ) → lt_z v (pos 0) ≡ false → signed_digits v ≡ digits (nat_abs v)
no_minus (pos n) h = refl
no_minus (negsuc k) h = let z : ◌≡◌ {A = ℕ} 0 1 = cc in absurd (omega arith)
