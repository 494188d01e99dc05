-- Sums over the first records of a list, record by record.
use mathlib.Core.Path.{◌≡◌, refl, ap, sym, ◌∙◌, subst}
use mathlib.Core.Bool.{Bool, true, false, ◌||◌}
use mathlib.Core.List.{List, [], ◌∷◌}
use Prim.Native.Nat.{ℕ, zero, suc, ◌+◌, ◌-◌, ◌*◌, ◌≤◌, ◌<◌, min}
use native.Mathlib.Nat.{mul-le-mul_right}
use native.Mathlib.Decide.{ℕ_discrete}
use native.Mathlib.Omega.{arith}
use borrow.Author.Tests.{eq-eqb, ne_eqb}
use lib.IntN.{ℤ, pos, ◌*ℤ◌}
use Rattle.rules.specs.Basics.{All}
use Rattle.rules.specs.Prices.{most_cents, cents, biased}
use Rattle.rules.specs.Turn.{Fill}
use Rattle.rules.specs.Average.{names, sum_for, units_for}
use Rattle.rules.proofs.SignedLaws.{IsDiff, diff_plus, diff_times, cents_diff}
use Rattle.types.specs.View.{upto, from}
use Rattle.types.proofs.TableLaws.{from_cons, from_end}
use Rattle.records.specs.Records.{most_given, record_at, number_at}
use Rattle.records.proofs.RecordLaws.{units_known, cents_known, price_known}
use Rattle.average.specs.Sums.{named, units_named, paid_for}
use Rattle.average.specs.Parts.{Fits}

-- ---- one record

pub units-mine : (i : ℕ) (f : Fill) → f.order ≡ i → units_named i f ≡ f.units
units-mine i f e = rw (eq-eqb f.order i e)

pub units-others : (i : ℕ) (f : Fill) → (f.order ≡ i → ⊥) → units_named i f ≡ 0
units-others i f n = rw (ne_eqb f.order i n)

-- ---- one record more

pub units-cons : (i : ℕ) (f : Fill) (fs : List Fill) → units_for i (f ∷ fs) ≡ units_named i f + units_for i fs
units-cons i f fs =
    elim (ℕ_discrete f.order i) [
      | yes e ↦ rw (eq-eqb f.order i e)
      | no n ↦ rw (ne_eqb f.order i n) (omega arith)
    ]

module _ (l : List ℕ) (i n : ℕ) where
  pub units-step : (k : ℕ) → k < n → units_for i (from (record_at l) k n) ≡ units_named i (record_at l k) + units_for i (from (record_at l) (k + 1) n)
  units-step k h = ap (units_for i) (from_cons (record_at l) k n h) ∙ units-cons i (record_at l k) (from (record_at l) (k + 1) n)

  pub units-end : (k : ℕ) → n ≤ k → units_for i (from (record_at l) k n) ≡ 0
  units-end k h = ap (units_for i) (from_end (record_at l) k n h)

  pub paid-step : (k : ℕ) → k < n → paid_for i (from (record_at l) k n) ≡ biased (record_at l k).price * units_named i (record_at l k) + paid_for i (from (record_at l) (k + 1) n)
  paid-step k h = ap (paid_for i) (from_cons (record_at l) k n h)

  pub paid-end : (k : ℕ) → n ≤ k → paid_for i (from (record_at l) k n) ≡ 0
  paid-end k h = ap (paid_for i) (from_end (record_at l) k n h)

  -- a record's units are among the order's
  units-among : (d k : ℕ) → d + k < n → units_named i (record_at l (d + k)) ≤ units_for i (from (record_at l) k n)
  units-among zero k h = let z : 0 + k ≡ k = omega arith in rw z (omega (arith, units-step k (omega arith)))
  units-among (suc d) k h =
      let z : suc d + k ≡ d + (k + 1) = omega arith in
      rw z (omega (arith, units-step k (omega arith), units-among d (k + 1) (omega arith)))

  pub units-within : (k : ℕ) → k < n → units_named i (record_at l k) ≤ units_for i (from (record_at l) 0 n)
  units-within k h = let z : k + 0 ≡ k = omega arith in rw z at (units-among k 0 (omega arith))

-- they fit 32 bits
pub units-few : (l : List ℕ) (i j : ℕ) → units_named i (record_at l j) ≤ 4_294_967_295
units-few l i j =
    elim (ℕ_discrete (record_at l j).order i) [
      | yes e ↦ omega (arith, units-mine i (record_at l j) e, units_known l j)
      | no n ↦ omega (arith, units-others i (record_at l j) n)
    ]

-- ---- any records

-- a price in cents is the biased one less 40,000,000
abbrev Biased : Fill → Type 0
Biased f = IsDiff f.price (biased f.price) most_cents × (biased f.price ≤ most_given)

-- the sum in cents is that of the biased prices less 40,000,000 for each unit
pub sum_diff : (i : ℕ) (fs : List Fill) → All Biased fs → IsDiff (sum_for i fs) (paid_for i fs) (most_cents * units_for i fs)
sum_diff i [] p = omega arith
sum_diff i (f ∷ fs) p =
    let x : ℕ = biased f.price in
    elim (ℕ_discrete f.order i) [
      | yes e ↦ (
          let s : most_cents * (f.units + units_for i fs) ≡ most_cents * f.units + most_cents * units_for i fs = omega arith in
          rw (eq-eqb f.order i e, s)
          (diff_plus (f.price *ℤ pos f.units) (sum_for i fs) (x * f.units) (most_cents * f.units) (paid_for i fs) (most_cents * units_for i fs)
          (diff_times f.price f.units x most_cents p.0.0) (sum_diff i fs p.1))
          )
      | no m ↦ (
          let s : x * 0 + paid_for i fs ≡ paid_for i fs = omega arith in
          rw (ne_eqb f.order i m, s) (sum_diff i fs p.1)
          )
    ]

pub paid_most : (i : ℕ) (fs : List Fill) → All Biased fs → paid_for i fs ≤ most_given * units_for i fs
paid_most i [] p = omega arith
paid_most i (f ∷ fs) p = omega (arith, units-cons i f fs, mul-le-mul_right (units_named i f) p.0.1, paid_most i fs p.1)

-- ---- the records of a list

record_biased : (l : List ℕ) (j : ℕ) → Biased (record_at l j)
record_biased l j =
    let p : ℕ = min (number_at l j 4) most_given in
    let e : p ≡ biased (record_at l j).price = price_known l j in
    (subst (λ (z : ℤ). IsDiff z (biased (record_at l j).price) most_cents) (cents_known l j) (subst (λ (x : ℕ). IsDiff (cents p) x most_cents) e (cents_diff p)), omega (arith, e))

pub all-biased : (l : List ℕ) (k n : ℕ) → All Biased (from (record_at l) k n)
unfolding upto
all-biased l k n = go k (n - k)
  where
    go : (k n : ℕ) → All Biased (upto (record_at l) k n)
    go k zero = tt
    go k (suc n) = (record_biased l k, go (k + 1) n)

-- a part of an order's sum fits
fits_most : (units x : ℕ) → 0 < units → x ≤ most_given * units → Fits units x
fits_most units x h l = omega arith

pub part-fits : (l : List ℕ) (i n units x k : ℕ) → 0 < units → units ≡ units_for i (from (record_at l) 0 n) → k < n → x + paid_for i (from (record_at l) k n) ≡ paid_for i (from (record_at l) 0 n)
    → Fits units (x + biased (record_at l k).price * units_named i (record_at l k))
part-fits l i n units x k h e t s =
    fits_most units (x + biased (record_at l k).price * units_named i (record_at l k)) h
    (subst (λ (u : ℕ). x + biased (record_at l k).price * units_named i (record_at l k) ≤ most_given * u) (sym e)
    (omega (arith, s, paid-step l i n k t, paid_most i (from (record_at l) 0 n) (all-biased l 0 n))))

-- ---- whether a record names an order

module _ (l : List ℕ) (i n : ℕ) where
  -- one record more, from the end
  pub named_none : (k : ℕ) → 0 < k → k ≤ n → ((record_at l (k - 1)).order ≡ i → ⊥) → named i (from (record_at l) k n) ≡ false → named i (from (record_at l) (k - 1) n) ≡ false
  named_none k h m x e =
      let z : k - 1 + 1 ≡ k = omega arith in
      ap (named i) (from_cons (record_at l) (k - 1) n (omega arith)) ∙ rw (ne_eqb (record_at l (k - 1)).order i x, z) e

  pub named_end : named i (from (record_at l) n n) ≡ false
  named_end = ap (named i) (from_end (record_at l) n n (omega arith))

  named-among : (d k : ℕ) → d + k < n → (record_at l (d + k)).order ≡ i → named i (from (record_at l) k n) ≡ true
  named-among zero k h e =
      let z : 0 + k ≡ k = omega arith in
      ap (named i) (from_cons (record_at l) k n (omega arith)) ∙ rw (eq-eqb (record_at l k).order i (rw z at e)) refl
  named-among (suc d) k h e =
      let z : suc d + k ≡ d + (k + 1) = omega arith in
      ap (named i) (from_cons (record_at l) k n (omega arith)) ∙ rw (named-among d (k + 1) (omega arith) (rw z at e)) (or-true (names i (record_at l k)))
    where
      or-true : (b : Bool) → (b || true) ≡ true
      or-true true = refl
      or-true false = refl

  pub named_here : (k : ℕ) → k < n → (record_at l k).order ≡ i → named i (from (record_at l) 0 n) ≡ true
  named_here k h e = let z : k + 0 ≡ k = omega arith in named-among k 0 (omega arith) (rw z e)
