-- The sums that legs can make: none is above the greatest, one leg alone, and a leg more in front.
use mathlib.Core.Path.{◌≡◌, refl, sym, ap, ◌∙◌}
use mathlib.Core.Bool.{Bool, true, false, ◌&&◌, ◌||◌, true≢false}
use mathlib.Core.List.{List, [], ◌∷◌}
use mathlib.Core.Logic.{⊎_elim}
use Prim.Native.Nat.{ℕ, zero, suc, ◌+◌, ◌-◌, ◌*◌, ◌/◌, ◌%◌, ◌≤◌, ◌<◌}
use native.Mathlib.Nat.{mul-add, mul-le-mul_left, zero-mul, one-mul, div-add-mod, div-le_of_le-mul, mul-mod_right}
use native.Mathlib.Decide.{ℕ_discrete, dec_le}
use native.Mathlib.Omega.{arith}
use borrow.Author.Tests.{le-leb, eq-eqb, ne_eqb}
use lib.Dec.{eqb, leb}
use Rattle.rules.proofs.TestLaws.{le_of, eq_of, and_left, and_right, or_cases, or_right, not_so}
use Rattle.legprices.specs.Sums.{Span, any_of, reach}
use Rattle.legprices.specs.Found.{greatest}
use Rattle.legprices.specs.Tables.{moved, smeared}

-- ---- tests

-- two tests that hold in the same cases
pub same_test : (a b : Bool) → (a ≡ true → b ≡ true) → (b ≡ true → a ≡ true) → a ≡ b
same_test true b f g = sym (f refl)
same_test false true f g = g refl
same_test false false f g = refl

or_left : (a b : Bool) → a ≡ true → (a || b) ≡ true
or_left true b h = refl
or_left false b h = absurd (true≢false (sym h))

and_both : (a b : Bool) → a ≡ true → b ≡ true → (a && b) ≡ true
and_both true b h k = k
and_both false b h k = h

-- ---- one of some numbers

pub any_some : (n y : ℕ) (f : ℕ → Bool) (i : ℕ) → y ≤ i → i < y + n → f i ≡ true → any_of n y f ≡ true
any_some zero y f i h l e = absurd (omega arith)
any_some (suc n) y f i h l e =
    elim (ℕ_discrete i y) [
      | yes q ↦ or_left (f y) (any_of n (suc y) f) (ap f (sym q) ∙ e)
      | no q ↦ or_right (f y) (any_of n (suc y) f) (any_some n (suc y) f i (omega arith) (omega arith) e)
    ]

pub any_which : (n y : ℕ) (f : ℕ → Bool) → any_of n y f ≡ true → (i : ℕ) × (y ≤ i) × (i < y + n) × (f i ≡ true)
any_which zero y f h = absurd (true≢false (sym h))
any_which (suc n) y f h =
    ⊎_elim
    (λ e. (y, omega arith, omega arith, e))
    (λ e. let r = any_which n (suc y) f e in (r.0, omega (arith, r.1), omega (arith, r.2), r.3))
    (or_cases (f y) (any_of n (suc y) f) h)

-- ---- some sums, with so many cents of a leg more

module _ (f : ℕ → Bool) (r : ℕ) where
  smear-some : (n s y : ℕ) → y ≤ n → r * y ≤ s → f (s - r * y) ≡ true → smeared f r n s ≡ true
  smear-some n s y h l e = any_some (suc n) 0 (λ x. leb (r * x) s && f (s - r * x)) y (omega arith) (omega arith) (and_both (leb (r * y) s) (f (s - r * y)) (le-leb (r * y) s l) e)

  smear-which : (n s : ℕ) → smeared f r n s ≡ true → (y : ℕ) × (y ≤ n) × (r * y ≤ s) × (f (s - r * y) ≡ true)
  smear-which n s h =
      let w = any_which (suc n) 0 (λ x. leb (r * x) s && f (s - r * x)) h in
      let y = w.0 in
      (y, omega (arith, w.2), le_of (r * y) s (and_left (leb (r * y) s) (f (s - r * y)) w.3), and_right (leb (r * y) s) (f (s - r * y)) w.3)

  pub smear-none : (s : ℕ) → f s ≡ smeared f r 0 s
  smear-none s =
      let z : s - r * 0 ≡ s = omega arith in
      same_test (f s) (smeared f r 0 s)
      (λ e. smear-some 0 s 0 (omega arith) (omega arith) (ap f z ∙ e))
      (λ e. let w = smear-which 0 s e in let q : s ≡ s - r * w.0 = let o : w.0 ≡ 0 = omega (arith, w.1) in rw o (sym z) in ap f q ∙ w.3)

  -- the cents up to h, and as many from n - h on
  pub smear-more : (h n s : ℕ) → h ≤ n → n ≤ 2 * h + 1 → moved (smeared f r h) (r * (n - h)) s ≡ smeared f r n s
  smear-more h n s l m = same_test (smeared f r h s || second) (smeared f r n s) to from
    where
      a : ℕ
      a = r * (n - h)

      second : Bool
      second = leb a s && smeared f r h (s - a)

      to : (smeared f r h s || second) ≡ true → smeared f r n s ≡ true
      to e =
          ⊎_elim
          (λ x. let w = smear-which h s x in smear-some n s w.0 (omega (arith, w.1)) w.2 w.3)
          (λ x.
          let w = smear-which h (s - a) (and_right (leb a s) (smeared f r h (s - a)) x) in
          let o = le_of a s (and_left (leb a s) (smeared f r h (s - a)) x) in
          let d : r * (n - h + w.0) ≡ a + r * w.0 = mul-add r (n - h) w.0 in
          let z : s - r * (n - h + w.0) ≡ s - a - r * w.0 = omega arith in
          smear-some n s (n - h + w.0) (omega (arith, w.1)) (omega (arith, w.2)) (ap f z ∙ w.3))
          (or_cases (smeared f r h s) second e)

      from : smeared f r n s ≡ true → (smeared f r h s || second) ≡ true
      from e =
          let w = smear-which n s e in
          let y = w.0 in
          elim (dec_le y h) [
            | yes j ↦ or_left (smeared f r h s) second (smear-some h s y j w.2 w.3)
            | no j ↦
                let x = y - (n - h) in
                let u : y ≡ n - h + x = omega (arith, w.1) in
                let d : r * y ≡ a + r * x = ap (λ (i : ℕ). r * i) u ∙ mul-add r (n - h) x in
                let z : s - a - r * x ≡ s - r * y = omega arith in
                let more = smear-some h (s - a) x (omega (arith, w.1)) (omega (arith, w.2)) (ap f z ∙ w.3) in
                or_right (smeared f r h s) second (and_both (leb a s) (smeared f r h (s - a)) (le-leb a s (omega (arith, w.2))) more)
          ]

pub smear_same : (f g : ℕ → Bool) (r n s : ℕ) → ((x : ℕ) → x ≤ s → f x ≡ g x) → smeared f r n s ≡ smeared g r n s
smear_same f g r n s e =
    same_test (smeared f r n s) (smeared g r n s)
    (λ h. let w = smear-which f r n s h in smear-some g r n s w.0 w.1 w.2 (sym (e (s - r * w.0) (omega arith)) ∙ w.3))
    (λ h. let w = smear-which g r n s h in smear-some f r n s w.0 w.1 w.2 (e (s - r * w.0) (omega arith) ∙ w.3))

-- ---- the greatest sum

pub reach_none : (s : ℕ) → reach [] s ≡ eqb s 0
unfolding reach
reach_none s = refl

pub reach_above : (gs : List Span) (s : ℕ) → greatest gs < s → reach gs s ≡ false
unfolding reach
reach_above [] s h = ne_eqb s 0 (omega arith)
reach_above (g ∷ gs) s h =
    not_so (reach (g ∷ gs) s)
    (λ e.
    let w = smear-which (reach gs) g.ratio g.width s e in
    let l : g.ratio * w.0 ≤ g.ratio * g.width = mul-le-mul_left g.ratio w.1 in
    true≢false (sym w.3 ∙ reach_above gs (s - g.ratio * w.0) (omega arith)))

-- ---- one leg alone

module _ (g : Span) (s : ℕ) where
  lone-some : (y : ℕ) → y ≤ g.width → g.ratio * y ≡ s → reach (g ∷ []) s ≡ true
  unfolding reach
  lone-some y h e = smear-some (reach []) g.ratio g.width s y h (omega arith) (eq-eqb (s - g.ratio * y) 0 (omega arith))

  lone-which : reach (g ∷ []) s ≡ true → (y : ℕ) × (g.ratio * y ≡ s)
  unfolding reach
  lone-which h =
      let w = smear-which (reach []) g.ratio g.width s h in
      let z : s - g.ratio * w.0 ≡ 0 = eq_of (s - g.ratio * w.0) 0 w.3 in
      (w.0, omega (arith, w.2))

  pub lone-every : g.ratio < 2 → s ≤ g.ratio * g.width → reach (g ∷ []) s ≡ true
  lone-every h l =
      elim (ℕ_discrete g.ratio 0) [
        | yes e ↦ let z : g.ratio * g.width ≡ 0 = rw e (zero-mul g.width) in lone-some 0 (omega arith) (omega arith)
        | no n ↦
            let e : g.ratio ≡ 1 = omega arith in
            let p : g.ratio * g.width ≡ g.width = rw e (one-mul g.width) in
            let q : g.ratio * s ≡ s = rw e (one-mul s) in
            lone-some s (omega arith) q
      ]

  pub lone-divided : 0 < g.ratio → s ≤ g.ratio * g.width → eqb (s % g.ratio) 0 ≡ reach (g ∷ []) s
  lone-divided h l =
      same_test (eqb (s % g.ratio) 0) (reach (g ∷ []) s)
      (λ e.
      let d = div-add-mod s g.ratio in
      let z = eq_of (s % g.ratio) 0 e in
      let q : g.ratio * (s / g.ratio) ≡ s = omega arith in
      lone-some (s / g.ratio) (div-le_of_le-mul g.ratio l) q)
      (λ e. let w = lone-which e in eq-eqb (s % g.ratio) 0 (ap (λ (x : ℕ). x % g.ratio) (sym w.1) ∙ mul-mod_right g.ratio w.0))
