-- The average of an order is what its units and its sum, in parts, say.
use mathlib.Core.Path.{◌≡◌, refl, ap₂, sym, ◌∙◌, subst}
use mathlib.Core.List.{List}
use Prim.Native.Nat.{ℕ, ◌+◌, ◌*◌, ◌≤◌, ◌<◌, min}
use native.Mathlib.Nat.{le_of_mul-le-mul_right}
use native.Mathlib.Omega.{arith}
use lib.IntN.{ℤ}
use Rattle.rules.specs.Prices.{most_cents, cents}
use Rattle.rules.specs.Refusals.{least_room}
use Rattle.rules.specs.Turn.{Fill}
use Rattle.rules.specs.Average.{sum_for, units_for, floor, rest, Average, none, exact, average_for}
use Rattle.rules.proofs.SignedLaws.{IsDiff}
use Rattle.rules.proofs.AverageLaws.{averaged_by}
use Rattle.types.specs.View.{from}
use Rattle.records.specs.Records.{most_given, record_at}
use Rattle.average.specs.declared.Parts.{Parts}
use Rattle.average.specs.Sums.{first_records, paid_for}
use Rattle.average.specs.Parts.{Whole}
use Rattle.average.proofs.PartLaws.{parts_of_diff}
use Rattle.average.proofs.SumLaws.{sum_diff, paid_most, all-biased}

module _ (l : List ℕ) (i n m units : ℕ) (e : m ≡ min n least_room) (u : units ≡ units_for i (from (record_at l) 0 m)) where
  abbrev records : List Fill
  records = from (record_at l) 0 m

  told : (a : Average) → a ≡ average_for i records → a ≡ average_for i (first_records l n)
  told a h = subst (λ (k : ℕ). a ≡ average_for i (from (record_at l) 0 k)) e h

  pub told_none : units ≡ 0 → none ≡ average_for i (first_records l n)
  told_none h = told none (averaged_by (λ a. none ≡ a) i records (λ p. absurd (omega (arith, p, u, h))) (λ z. refl))

  module _ (d : Parts) (w : Whole units (paid_for i records) d) (p : 0 < units) where
    quotient-most : d.quotient ≤ most_given
    quotient-most =
        let b : paid_for i records ≤ most_given * units = subst (λ (x : ℕ). paid_for i records ≤ most_given * x) (sym u) (paid_most i records (all-biased l 0 m)) in
        let c : d.quotient * units ≤ most_given * units = omega (arith, w.is, b) in
        le_of_mul-le-mul_right {k = units} c p

    sum_is : IsDiff (sum_for i records) (d.quotient * units_for i records + d.remainder) (most_cents * units_for i records)
    sum_is =
        subst (λ (x : ℕ). IsDiff (sum_for i records) x (most_cents * units_for i records)) (sym (subst (λ (x : ℕ). d.quotient * x + d.remainder ≡ paid_for i records) u w.is))
        (sum_diff i records (all-biased l 0 m))

    parts_are : (floor (sum_for i records) (units_for i records) ≡ cents d.quotient) × (rest (sum_for i records) (units_for i records) ≡ d.remainder)
    parts_are = parts_of_diff (sum_for i records) (units_for i records) d.quotient d.remainder most_cents (omega (arith, w.below, u)) sum_is

    pub told-exact : (z : ℤ) → z ≡ cents (min d.quotient most_given) → exact z d.remainder ≡ average_for i (first_records l n)
    told-exact z h =
        let q : min d.quotient most_given ≡ d.quotient = omega (arith, quotient-most) in
        let c : z ≡ cents d.quotient = rw q at h in
        told (exact z d.remainder)
        (averaged_by (λ a. exact z d.remainder ≡ a) i records (λ k. ap₂ exact (c ∙ sym parts_are.0) (sym parts_are.1)) (λ k. absurd (omega (arith, k, u, p))))
