-- A table in two parts, and a table after a store.
use mathlib.Core.Path.{◌≡◌, refl, ap, sym, ◌∙◌}
use mathlib.Core.Bool.{Bool, true, false}
use mathlib.Core.List.{List, ◌∷◌, ◌++◌}
use Prim.Native.Nat.{ℕ, zero, suc, ◌+◌, ◌-◌, ◌≤◌, ◌<◌}
use native.Mathlib.Omega.{arith}
use mir.Val.{bool_byte}
use lib.Seq.{append_snoc}
use Rattle.rules.specs.Basics.{pick}
use Rattle.types.specs.View.{upto, from}
use Rattle.types.proofs.TableLaws.{from_cons, from_end}
use Rattle.state.proofs.TableLaws.{from-same}

-- a flag that is counted
pub counted-flag : (b : Bool) → (bool_byte b ≡ pick b 1 0) × (bool_byte b ≤ 1)
counted-flag true = (refl, omega arith)
counted-flag false = (refl, omega arith)

module _ {A : Type 0} where
  upto-join : (f : ℕ → A) (k a b : ℕ) → upto f k a ++ upto f (k + a) b ≡ upto f k (a + b)
  unfolding upto
  upto-join f k zero b =
      let p : k + 0 ≡ k = omega arith in
      let q : 0 + b ≡ b = omega arith in
      rw (p, q)
  upto-join f k (suc a) b =
      let p : k + suc a ≡ k + 1 + a = omega arith in
      let q : suc a + b ≡ suc (a + b) = omega arith in
      rw (p, q) (ap (λ (t : List A). f k ∷ t) (upto-join f (k + 1) a b))

  from-join : (f : ℕ → A) (j i n : ℕ) → j ≤ i → i ≤ n → from f j i ++ from f i n ≡ from f j n
  from-join f j i n a b =
      let p : j + (i - j) ≡ i = omega arith in
      let q : i - j + (n - i) ≡ n - j = omega arith in
      rw (p, q) at (upto-join f j (i - j) (n - i))

  -- the table h has x at i and is g before it
  module _ (g h : ℕ → A) (i : ℕ) (x : A) (here : h i ≡ x) (before : (a : ℕ) → a < i → h a ≡ g a) where
    -- one more of those before
    pub push : (j : ℕ) (t : List A) → j ≤ i → from h j (i + 1) ++ t ≡ from g j i ++ (x ∷ t)
    push j t p =
        rw (← from-join h j i (i + 1) p (omega arith), from_cons h i (i + 1) (omega arith), from_end h (i + 1) (i + 1) (omega arith), here, from-same h g j i (λ a v w. before a w), append_snoc)

    -- counted where the flag is set
    pub push-if : (t : List A) (b : Bool) → from h 0 (i + pick b 1 0) ++ t ≡ from g 0 i ++ pick b (x ∷ t) t
    push-if t true = push 0 t (omega arith)
    push-if t false = let q : i + 0 ≡ i = omega arith in rw (q, from-same h g 0 i (λ a v w. before a w))

    -- and all that is behind it, where h is g there too
    pub from-store : (j n : ℕ) → j ≤ i → i < n → ((a : ℕ) → i < a → h a ≡ g a) → from h j n ≡ from g j i ++ (x ∷ from g (i + 1) n)
    from-store j n p q after = sym (from-join h j (i + 1) n (omega arith) (omega arith)) ∙ push j (from h (i + 1) n) p ∙ rw (from-same h g (i + 1) n (λ a v w. after a (omega arith)))
