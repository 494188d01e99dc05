-- What is left of a table: its head, its end, its length, and one place more.
use mathlib.Core.Path.{◌≡◌, refl, sym, ap, ◌∙◌}
use mathlib.Core.List.{List, [], ◌∷◌, ◌++◌}
use Prim.Native.Nat.{ℕ, zero, suc, ◌+◌, ◌-◌, ◌≤◌, ◌<◌}
use native.Mathlib.Numerals.{add-one}
use native.Mathlib.Omega.{arith}
use lib.ListN.{length, get_or, take}
use lib.Seq.{take-suc}
use Rattle.types.specs.View.{upto, from}

module _ {A : Type 0} (f : ℕ → A) where
  pub from_cons : (k n : ℕ) → k < n → from f k n ≡ f k ∷ from f (k + 1) n
  unfolding upto
  from_cons k n h =
      let q : n - k ≡ suc (n - (k + 1)) = omega arith in
      rw q

  pub from_end : (k n : ℕ) → n ≤ k → from f k n ≡ []
  unfolding upto
  from_end k n h =
      let q : n - k ≡ 0 = omega arith in
      rw q

  upto-length : (k n : ℕ) → length (upto f k n) ≡ n
  unfolding upto
  upto-length k zero = refl
  upto-length k (suc n) = ap suc (upto-length (k + 1) n)

  pub from-length : (k n : ℕ) → length (from f k n) ≡ n - k
  from-length k n = upto-length k (n - k)

  upto-last : (k n : ℕ) → upto f k (suc n) ≡ upto f k n ++ (f (k + n) ∷ [])
  unfolding upto
  upto-last k zero = let q : k + 0 ≡ k = omega arith in rw q
  upto-last k (suc n) = let q : k + 1 + n ≡ k + suc n = omega arith in rw (upto-last (k + 1) n, q)

  pub from_last : (n : ℕ) → from f 0 (n + 1) ≡ from f 0 n ++ (f n ∷ [])
  from_last n =
      let q : n + 1 - 0 ≡ suc n = omega arith in
      let p : n - 0 ≡ n = omega arith in
      let z : 0 + n ≡ n = omega arith in
      rw (q, p) (upto-last 0 n ∙ ap (λ (k : ℕ). upto f 0 n ++ (f k ∷ [])) z)

-- the first of a list, place by place
pub from-take : {A : Type 0} (d : A) (l : List A) (n : ℕ) → n ≤ length l → from (λ i. get_or l i d) 0 n ≡ take n l
from-take d l zero h = from_end (λ i. get_or l i d) 0 0 (omega arith)
from-take {A} d l (suc n) h =
    ap (λ (k : ℕ). from (λ i. get_or l i d) 0 k) (sym (add-one n)) ∙ from_last (λ i. get_or l i d) n ∙ ap (λ (t : List A). t ++ (get_or l n d ∷ [])) (from-take d l n (omega arith))
    ∙ sym (take-suc l n d (omega arith))
