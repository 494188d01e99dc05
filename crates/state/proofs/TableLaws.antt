-- Tables that agree, and a table in two parts.
use mathlib.Core.Path.{◌≡◌, refl, ap}
use mathlib.Core.List.{List, ◌∷◌, ◌++◌}
use Prim.Native.Nat.{ℕ, zero, suc, ◌+◌, ◌-◌, ◌≤◌, ◌<◌}
use native.Mathlib.Omega.{arith}
use Rattle.types.specs.View.{upto, from}

module _ {A : Type 0} where
  upto-same : (f g : ℕ → A) (k n : ℕ) → ((i : ℕ) → k ≤ i → i < k + n → f i ≡ g i) → upto f k n ≡ upto g k n
  unfolding upto
  upto-same f g k zero h = refl
  upto-same f g k (suc n) h = rw (h k (omega arith) (omega arith), upto-same f g (k + 1) n (λ i a b. h i (omega arith) (omega arith)))

  pub from-same : (f g : ℕ → A) (k n : ℕ) → ((i : ℕ) → k ≤ i → i < n → f i ≡ g i) → from f k n ≡ from g k n
  from-same f g k n h = upto-same f g k (n - k) (λ i a b. h i a (omega arith))

  upto-join : (f : ℕ → A) (k a b : ℕ) → upto f k a ++ upto f (k + a) b ≡ upto f k (a + b)
  unfolding upto
  upto-join f k zero b =
      let p : k + 0 ≡ k = omega arith in
      let q : 0 + b ≡ b = omega arith in
      rw (p, q)
  upto-join f k (suc a) b =
      let p : k + suc a ≡ k + 1 + a = omega arith in
      let q : suc a + b ≡ suc (a + b) = omega arith in
      rw (p, q) (ap (λ (t : List A). f k ∷ t) (upto-join f (k + 1) a b))

  pub from-join : (f : ℕ → A) (j i n : ℕ) → j ≤ i → i ≤ n → from f j i ++ from f i n ≡ from f j n
  from-join f j i n a b =
      let p : j + (i - j) ≡ i = omega arith in
      let q : i - j + (n - i) ≡ n - j = omega arith in
      rw (p, q) at (upto-join f j (i - j) (n - i))
