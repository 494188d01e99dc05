-- What is left of the legs: tests on each, tests on each two, the greatest common divisor from the last leg on.
use mathlib.Core.Path.{◌≡◌, refl, sym, ap, ◌∙◌}
use mathlib.Core.Bool.{Bool, true, ◌&&◌, and_assoc, and-true}
use mathlib.Core.List.{List, [], ◌∷◌}
use Prim.Native.Nat.{ℕ, zero, suc, ◌+◌, ◌-◌, ◌%◌, ◌≤◌, ◌<◌}
use native.Mathlib.Nat.{mod-lt}
use native.Mathlib.Decide.{ℕ_discrete}
use native.Mathlib.Omega.{arith}
use borrow.Author.Tests.{eq-eqb, ne_eqb}
use Rattle.rules.specs.Basics.{all}
use Rattle.rules.specs.Series.{good_symbol, on_third_friday}
use Rattle.rules.specs.Strategy.{Leg, all_pairs, euclid, gcd, gcd_all}
use Rattle.rules.proofs.TestLaws.{and_left, and_right}
use Rattle.types.specs.View.{from}
use Rattle.types.proofs.TableLaws.{from_cons, from_end}

module _ (f : ℕ → Leg) (k n : ℕ) (t : Bool) where
  pub all_cons : (p : Leg → Bool) → k < n → ((t && p (f k)) && all p (from f (k + 1) n)) ≡ (t && all p (from f k n))
  all_cons p h = and_assoc t (p (f k)) (all p (from f (k + 1) n)) ∙ ap (λ (ls : List Leg). t && all p ls) (sym (from_cons f k n h))

  pub all_end : (p : Leg → Bool) → n ≤ k → (t && all p (from f k n)) ≡ t
  all_end p h = ap (λ (ls : List Leg). t && all p ls) (from_end f k n h) ∙ and-true t

  pub pairs-cons : (q : Leg → Leg → Bool) → k < n → ((t && all (q (f k)) (from f (k + 1) n)) && all_pairs q (from f (k + 1) n)) ≡ (t && all_pairs q (from f k n))
  pairs-cons q h =
      and_assoc t (all (q (f k)) (from f (k + 1) n)) (all_pairs q (from f (k + 1) n)) ∙ ap (λ (ls : List Leg). t && all_pairs q ls) (sym (from_cons f k n h))

  pub pairs_end : (q : Leg → Leg → Bool) → n ≤ k → (t && all_pairs q (from f k n)) ≡ t
  pairs_end q h = ap (λ (ls : List Leg). t && all_pairs q ls) (from_end f k n h) ∙ and-true t

-- where all symbols are good, a date is asked of every leg
pub dates_asked : (ls : List Leg) → all (λ l. good_symbol l.symbol) ls ≡ true → all (λ l. good_symbol l.symbol && on_third_friday l.symbol) ls ≡ all (λ l. on_third_friday l.symbol) ls
dates_asked [] g = refl
dates_asked (l ∷ ls) g =
    let good : good_symbol l.symbol ≡ true = and_left (good_symbol l.symbol) (all (λ k. good_symbol k.symbol) ls) g in
    rw (good, dates_asked ls (and_right (good_symbol l.symbol) (all (λ k. good_symbol k.symbol) ls) g))

-- ---- the greatest common divisor

-- how many steps are allowed does not matter, if they are enough
steps-enough : (n m a b : ℕ) → b < n → b < m → euclid n a b ≡ euclid m a b
steps-enough zero m a b h k = absurd (omega arith)
steps-enough (suc n) zero a b h k = absurd (omega arith)
steps-enough (suc n) (suc m) a b h k =
    elim (ℕ_discrete b 0) [
      | yes e ↦ rw (eq-eqb b 0 e)
      | no z ↦ (
          let p : 0 < b = omega arith in
          let l : a % b < b = mod-lt a p in
          rw (ne_eqb b 0 z) (steps-enough n m b (a % b) (omega arith) (omega arith))
          )
    ]

pub gcd_ends : (a b : ℕ) → b ≡ 0 → gcd a b ≡ a
gcd_ends a b e = rw (eq-eqb b 0 e)

pub gcd-step : (a b : ℕ) → 0 < b → gcd a b ≡ gcd b (a % b)
gcd-step a b h = rw (ne_eqb b 0 (λ e. omega arith)) (steps-enough b (suc (a % b)) b (a % b) (mod-lt a h) (omega arith))

pub gcd-cons : (f : ℕ → Leg) (k n : ℕ) → 0 < k → k ≤ n → gcd_all (from f (k - 1) n) ≡ gcd (f (k - 1)).ratio (gcd_all (from f k n))
gcd-cons f k n p h =
    let e : k - 1 + 1 ≡ k = omega arith in
    ap gcd_all (from_cons f (k - 1) n (omega arith)) ∙ ap (λ (m : ℕ). gcd (f (k - 1)).ratio (gcd_all (from f m n))) e
