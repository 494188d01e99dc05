-- M-102: the averages of a message's records are exact.
use mathlib.Core.Path.{◌≡◌, refl, ap, sym, ◌∙◌, subst}
use mathlib.Core.List.{List, [], ◌∷◌, map}
use mathlib.Core.Logic.{◌⊎◌, inl, inr}
use Prim.Native.Nat.{ℕ, suc, ◌+◌, ◌-◌, ◌*◌, ◌/◌, ◌%◌, ◌<◌}
use native.Mathlib.Nat.{div-add-mod', mod-lt}
use native.Mathlib.Decide.{ℕ_discrete, dec_lt}
use native.Mathlib.Omega.{arith}
use borrow.Author.Tests.{eq-eqb, ne_eqb, lt-ltb, le-ltb}
use lib.IntN.{ℤ, pos, negsuc, ◌+ℤ◌, ◌*ℤ◌}
use Rattle.rules.specs.Basics.{All, Pairwise}
use Rattle.rules.specs.State.{State}
use Rattle.rules.specs.Turn.{Fill}
use Rattle.rules.specs.Execution.{Turn}
use Rattle.rules.specs.Run.{Sent, answer_to, answers}
use Rattle.rules.specs.Demand.{Mark, GoodTurn, mine, others, Told, Good}
use Rattle.rules.specs.Average.{sum_for, units_for, floor, rest, Average, none, exact, average_for, without, firsts, OrderAverage, listed, averages_of, averages, SumsTo, nothing, counted, passed, Exact, HasRecord, HasAverage, first_at, GoodAverages, Says, AveragesAreExactOfRules}
use Rattle.rules.proofs.BasicsLaws.{all_map, all_always, all_append}
use Rattle.rules.proofs.SignedLaws.{diff_plus, diff_times, diff_same}
use Rattle.rules.proofs.ClaimLaws.{mine-others}
use Rattle.rules.proofs.RunLaws.{opened_inv, run_good}

-- ---- division

pub floor-exact : (z : ℤ) (n : ℕ) → 0 < n → floor z n *ℤ pos n +ℤ pos (rest z n) ≡ z
floor-exact (pos a) n h = ap pos (div-add-mod' a n)
floor-exact (negsuc a) n h =
    let q : ℕ = a / n in
    let r : ℕ = n - 1 - a % n in
    let l : a % n < n = mod-lt a h in
    diff_same (negsuc q *ℤ pos n +ℤ pos r) (negsuc a) (0 * n + r) (suc q * n + 0)
    (diff_plus (negsuc q *ℤ pos n) (pos r) (0 * n) (suc q * n) r 0 (diff_times (negsuc q) n 0 (suc q) (omega arith)) (omega arith))
    (omega (arith, div-add-mod' a n))

pub rest_below : (z : ℤ) (n : ℕ) → 0 < n → rest z n < n
rest_below (pos a) n h = mod-lt a h
rest_below (negsuc a) n h = omega arith

-- ---- the records of an order

sums_are : (i : ℕ) (fs : List Fill) → SumsTo i fs (sum_for i fs) (units_for i fs)
sums_are i [] = nothing
sums_are i (f ∷ fs) =
    elim (ℕ_discrete f.order i) [
      | yes e ↦ rw (eq-eqb f.order i e) (counted f fs (sum_for i fs) (units_for i fs) e (sums_are i fs))
      | no n ↦ rw (ne_eqb f.order i n) (passed f fs (sum_for i fs) (units_for i fs) n (sums_are i fs))
    ]

units_record : (i : ℕ) (fs : List Fill) → 0 < units_for i fs → HasRecord i fs
units_record i [] h = absurd (omega arith)
units_record i (f ∷ fs) h =
    elim (ℕ_discrete f.order i) [
      | yes e ↦ inl e
      | no n ↦ inr (units_record i fs (rw (ne_eqb f.order i n) at h))
    ]

abbrev Some : Fill → Type 0
Some f = 0 < f.units

record_units : (i : ℕ) (fs : List Fill) → All Some fs → HasRecord i fs → 0 < units_for i fs
record_units i [] p h = absurd h
record_units i (f ∷ fs) p (inl e) = rw (eq-eqb f.order i e) (omega (arith, p.0))
record_units i (f ∷ fs) p (inr h) =
    elim (ℕ_discrete f.order i) [
      | yes e ↦ rw (eq-eqb f.order i e) (omega (arith, p.0))
      | no n ↦ rw (ne_eqb f.order i n) (record_units i fs p.1 h)
    ]

-- ---- the average of an order

-- there is one just where there are units
pub averaged_by : (P : Average → Type 0) (i : ℕ) (fs : List Fill) → (0 < units_for i fs → P (exact (floor (sum_for i fs) (units_for i fs)) (rest (sum_for i fs) (units_for i fs)))) → (units_for i fs ≡ 0 → P none) → P (average_for i fs)
unfolding average_for
averaged_by P i fs p q =
    elim (dec_lt 0 (units_for i fs)) [
      | yes l ↦ rw (lt-ltb 0 (units_for i fs) l) (p l)
      | no n ↦ rw (le-ltb 0 (units_for i fs) (omega arith)) (q (omega arith))
    ]

exact_one : (i : ℕ) (fs : List Fill) → 0 < units_for i fs → Exact fs i (floor (sum_for i fs) (units_for i fs)) (rest (sum_for i fs) (units_for i fs))
exact_one i fs l =
    record { sum = sum_for i fs; units = units_for i fs; sums = sums_are i fs; whole = floor-exact (sum_for i fs) (units_for i fs) l; below = rest_below (sum_for i fs) (units_for i fs) l }

says_one : (i : ℕ) (fs : List Fill) → All Some fs → Says i fs (average_for i fs)
says_one i fs p = averaged_by (Says i fs) i fs (exact_one i fs) (λ e h. none-without e (record_units i fs p h))
  where
    none-without : units_for i fs ≡ 0 → 0 < units_for i fs → ⊥
    none-without e l = omega arith

-- ---- the orders of a list of averages

-- each is exact, and each order has units
abbrev Counted : List Fill → OrderAverage → Type 0
Counted fs a = Exact fs a.order a.quotient a.remainder × (0 < units_for a.order fs)

counted-all : (fs : List Fill) (is : List ℕ) → All (Counted fs) (averages_of fs is)
counted-all fs [] = tt
counted-all fs (i ∷ is) =
    averaged_by (λ a. All (Counted fs) (listed i a (averages_of fs is))) i fs (λ l. ((exact_one i fs l, l), counted-all fs is)) (λ e. counted-all fs is)

averages-all : (P : ℕ → Type 0) (fs : List Fill) (is : List ℕ) → All P is → All (λ a. P a.order) (averages_of fs is)
averages-all P fs [] h = tt
averages-all P fs (i ∷ is) h =
    averaged_by (λ a. All (λ b. P b.order) (listed i a (averages_of fs is))) i fs (λ l. (h.0, averages-all P fs is h.1)) (λ e. averages-all P fs is h.1)

averages_pairs : (R : ℕ → ℕ → Type 0) (fs : List Fill) (is : List ℕ) → Pairwise R is → Pairwise (λ a b. R a.order b.order) (averages_of fs is)
averages_pairs R fs [] h = tt
averages_pairs R fs (i ∷ is) h =
    averaged_by (λ a. Pairwise (λ b c. R b.order c.order) (listed i a (averages_of fs is))) i fs
    (λ l. (averages-all (R i) fs is h.0, averages_pairs R fs is h.1)) (λ e. averages_pairs R fs is h.1)

abbrev HasId : ℕ → List ℕ → Type 0
HasId i [] = ⊥
HasId i (j ∷ js) = (j ≡ i) ⊎ HasId i js

averages_has : (i : ℕ) (fs : List Fill) (is : List ℕ) → 0 < units_for i fs → HasId i is → HasAverage i (averages_of fs is)
averages_has i fs [] u h = h
averages_has i fs (j ∷ js) u (inl e) =
    averaged_by (λ a. HasAverage i (listed j a (averages_of fs js))) j fs (λ l. inl e) (λ z. absurd (clash (subst (λ (k : ℕ). units_for k fs ≡ 0) e z)))
  where
    clash : units_for i fs ≡ 0 → ⊥
    clash z = omega arith
averages_has i fs (j ∷ js) u (inr h) =
    averaged_by (λ a. HasAverage i (listed j a (averages_of fs js))) j fs (λ l. inr (averages_has i fs js u h)) (λ z. averages_has i fs js u h)

has_units_lem : (i : ℕ) (fs : List Fill) (xs : List OrderAverage) → All (Counted fs) xs → HasAverage i xs → 0 < units_for i fs
has_units_lem i fs [] p h = absurd h
has_units_lem i fs (a ∷ xs) p (inl e) = subst (λ (k : ℕ). 0 < units_for k fs) e p.0.1
has_units_lem i fs (a ∷ xs) p (inr h) = has_units_lem i fs xs p.1 h

-- ---- ids by first record

-- the ids that are left
without_all : (P Q : ℕ → Type 0) (i : ℕ) (js : List ℕ) → ((j : ℕ) → P j → (j ≡ i → ⊥) → Q j) → All P js → All Q (without i js)
without_all P Q i [] c h = tt
without_all P Q i (j ∷ js) c h =
    elim (ℕ_discrete j i) [
      | yes e ↦ rw (eq-eqb j i e) (without_all P Q i js c h.1)
      | no n ↦ rw (ne_eqb j i n) (c j h.0 n, without_all P Q i js c h.1)
    ]

without_has : (i k : ℕ) (js : List ℕ) → (k ≡ i → ⊥) → HasId k js → HasId k (without i js)
without_has i k [] n h = h
without_has i k (j ∷ js) n (inl e) = rw (ne_eqb j i (λ z. n (sym e ∙ z))) (inl e)
without_has i k (j ∷ js) n (inr h) =
    elim (ℕ_discrete j i) [
      | yes e ↦ rw (eq-eqb j i e) (without_has i k js n h)
      | no m ↦ rw (ne_eqb j i m) (inr (without_has i k js n h))
    ]

firsts_has : (i : ℕ) (fs : List Fill) → HasRecord i fs → HasId i (firsts fs)
firsts_has i [] h = h
firsts_has i (f ∷ fs) (inl e) = inl e
firsts_has i (f ∷ fs) (inr h) =
    elim (ℕ_discrete f.order i) [
      | yes e ↦ inl e
      | no n ↦ inr (without_has f.order i (firsts fs) (λ z. n (sym z)) (firsts_has i fs h))
    ]

abbrev FirstBefore : List Fill → ℕ → ℕ → Type 0
FirstBefore fs i j = first_at i fs < first_at j fs

later : (f : Fill) (fs : List Fill) (j : ℕ) → (j ≡ f.order → ⊥) → first_at j (f ∷ fs) ≡ suc (first_at j fs)
later f fs j n = rw (ne_eqb f.order j (λ e. n (sym e)))

at_first : (f : Fill) (fs : List Fill) → first_at f.order (f ∷ fs) ≡ 0
at_first f fs = rw (eq-eqb f.order f.order refl)

tail_by_first : (f : Fill) (fs : List Fill) (js : List ℕ) → Pairwise (FirstBefore fs) js → Pairwise (FirstBefore (f ∷ fs)) (without f.order js)
tail_by_first f fs [] h = tt
tail_by_first f fs (j ∷ js) h =
    elim (ℕ_discrete j f.order) [
      | yes e ↦ rw (eq-eqb j f.order e) (tail_by_first f fs js h.1)
      | no n ↦
          rw (ne_eqb j f.order n) (
            without_all (FirstBefore fs j) (FirstBefore (f ∷ fs) j) f.order js (λ k l m. omega (arith, later f fs j n, later f fs k m)) h.0,
            tail_by_first f fs js h.1,
          )
    ]

firsts_by_first : (fs : List Fill) → Pairwise (FirstBefore fs) (firsts fs)
firsts_by_first [] = tt
firsts_by_first (f ∷ fs) = (
  without_all (λ k. Unit {0}) (FirstBefore (f ∷ fs) f.order) f.order (firsts fs)
      (λ k u m. omega (arith, at_first f fs, later f fs k m)) (all_always (λ k. Unit {0}) (λ k. tt) (firsts fs)),
  tail_by_first f fs (firsts fs) (firsts_by_first fs),
)

-- ---- the claim

good_averages : (fs : List Fill) → All Some fs → GoodAverages fs
unfolding averages
good_averages fs p =
    let c : All (Counted fs) (averages_of fs (firsts fs)) = counted-all fs (firsts fs) in
    record {
      each_exact = all_map (Counted fs) (λ a. Exact fs a.order a.quotient a.remainder) (λ a h. h.0) (averages_of fs (firsts fs)) c;
      each = λ i. (λ h. averages_has i fs (firsts fs) (record_units i fs p h) (firsts_has i fs h), λ h. units_record i fs (has_units_lem i fs (averages_of fs (firsts fs)) c h));
      by_first = averages_pairs (FirstBefore fs) fs (firsts fs) (firsts_by_first fs);
      asked = λ i. says_one i fs p;
    }

-- the records of good turns have units
told_some : (n : ℕ) (ts : List Turn) (rs : List Fill) → Told (GoodTurn n) ts rs → All Some rs
told_some n [] rs h = rw h tt
told_some n (t ∷ ts) rs h =
    let i : ℕ = t.order.id in
    subst (All Some) (mine-others i rs)
    (all_append Some (mine i rs) (others i rs) (all_map (Mark n t) Some (λ f m. m.some) (mine i rs) h.0.marks) (told_some n ts (others i rs) h.1))

run-averages : (s : State) (ms : List Sent) → Good s ms (map (λ a. a.fills) (answers s ms)) → All GoodAverages (map (λ a. a.fills) (answers s ms))
unfolding answers
run-averages s [] g = tt
run-averages s (m ∷ ms) g =
    let fs : List Fill = (answer_to s m).fills in
    (good_averages fs (told_some s.clock.next (answer_to s m).turns fs g.0), run-averages (answer_to s m).state ms g.1)

pub averages_are_exact_of_rules : AveragesAreExactOfRules
unfolding AveragesAreExactOfRules
averages_are_exact_of_rules = (good_averages, λ o s h ms. run-averages s ms (run_good s ms (opened_inv o s h)))
