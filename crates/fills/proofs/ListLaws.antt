-- Records that are stored one after another.
use mathlib.Core.Path.{◌≡◌, sym, ap, ◌∙◌}
use mathlib.Core.List.{List, ◌∷◌, ◌++◌}
use Prim.Native.Nat.{ℕ, suc, ◌+◌, ◌≤◌}
use native.Mathlib.Nat.{zero-add}
use native.Mathlib.Omega.{arith}
use lib.ListN.{length, drop, set}
use lib.Seq.{sets, sets-eq}
use Rattle.fills.specs.Fills.{written}

one_on : (i : ℕ) → i + 1 ≡ suc i
one_on i = omega arith

module _ {A : Type 0} where
  -- the first of them is stored, and then the others
  pub sets_more : (ys : List A) (i : ℕ) (f : A) (fs gs : List A) → gs ≡ f ∷ fs → sets (set ys i f) (i + 1) fs ≡ sets ys i gs
  sets_more ys i f fs gs e = ap (λ (k : ℕ). sets (set ys i f) k fs) (one_on i) ∙ sym (ap (sets ys i) e)

  -- all of them, from the start of the list
  pub sets-written : (ys fs : List A) → length fs ≤ length ys → sets ys 0 fs ≡ written ys fs
  sets-written ys fs l = sets-eq fs ys 0 (omega (arith, l)) ∙ ap (λ (k : ℕ). fs ++ drop k ys) (zero-add (length fs))
