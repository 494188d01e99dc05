-- A symbol's parts: where its capitals end, a strike of zeros, and a month.
use mathlib.Core.Path.{◌≡◌, refl, sym, ap, ◌∙◌}
use mathlib.Core.Bool.{Bool, true, false, ◌&&◌, not, and_assoc, or-false}
use mathlib.Core.List.{List, [], ◌∷◌}
use Prim.Native.Nat.{ℕ, zero, suc, ◌+◌, ◌-◌, ◌*◌, ◌≤◌}
use native.Mathlib.Omega.{arith}
use borrow.Author.Tests.{eqb-true, eq-eqb, ne_eqb, le-leb, lt-ltb}
use lib.Dec.{eqb, ltb}
use Rattle.std.proofs.Common.{Option, Some, None, cond}
use Rattle.std.specs.List.{position_or_len}
use Rattle.std.specs.Option.{unwrap_or}
use Rattle.std.proofs.lemmas.Bool.{ltb-false}
use lib.ListN.{length, drop}
use Rattle.rules.specs.Basics.{between, all}
use Rattle.rules.specs.Series.{is_capital, is_digit, is_space, is_padded, digits, month_of, good_root, good_date, good_type, good_strike, good_symbol}
use Rattle.rules.proofs.TestLaws.{and_left, and_right, between_low, between_high}
use Rattle.series.specs.Parts.{part}
use Rattle.series.proofs.PartLaws.{part-rest}

-- tests that hold together are the same
same_test : (x y : Bool) → (x ≡ true → y ≡ true) → (y ≡ true → x ≡ true) → x ≡ y
same_test true y f g = sym (f refl)
same_test false true f g = g refl
same_test false false f g = refl

-- the second of two tests counts only where the first holds
and_if : (x y z : Bool) → (x ≡ true → y ≡ z) → (x && y) ≡ (x && z)
and_if true y z f = f refl
and_if false y z f = refl

between-same : (b n : ℕ) → b ≡ n → between n b n ≡ true
between-same b n e = rw (le-leb n b (omega arith), le-leb b n (omega arith))

-- ---- the root

pub space_between : (bs : List ℕ) → all is_space bs ≡ all (λ b. between 32 b 32) bs
space_between [] = refl
space_between (b ∷ bs) =
    let e : is_space b ≡ between 32 b 32 =
    same_test (is_space b) (between 32 b 32) (λ h. between-same b 32 (eqb-true b 32 h)) (λ h. eq-eqb b 32 (omega (arith, between_low 32 b 32 h, between_high 32 b 32 h)))
    in
    rw (e, space_between bs)

-- where capitals end, spaces are left
abbrev pub capitals_in : List ℕ → ℕ
capitals_in bs = position_or_len (λ b. not (is_capital b)) bs

pub padded_is : (bs : List ℕ) → is_padded bs ≡ all is_space (drop (capitals_in bs) bs)
padded_is [] = refl
padded_is (b ∷ bs) = by-head b bs (is_capital b) refl (padded_is bs)
  where
    by-head : (b : ℕ) (bs : List ℕ) (t : Bool) → is_capital b ≡ t → is_padded bs ≡ all is_space (drop (capitals_in bs) bs) → is_padded (b ∷ bs) ≡ all is_space (drop (capitals_in (b ∷ bs)) (b ∷ bs))
    by-head b bs true e h =
        let n : is_space b ≡ false = ne_eqb b 32 (λ z. omega (arith, between_low 65 b 90 e)) in
        let z : 1 + capitals_in bs ≡ suc (capitals_in bs) = omega arith in
        rw (e, n, z) (or-false (is_padded bs) ∙ h)
    by-head b bs false e h = rw e refl

-- the place that was found, or else the end
pub or_end : (o : Option ℕ) (k n : ℕ) → k ≤ n → o ≡ cond (ltb k n) (Some k) None → unwrap_or o n ≡ k
or_end o k n l e = rw e (by-test (ltb k n) refl)
  where
    by-test : (t : Bool) → ltb k n ≡ t → unwrap_or (cond t (Some k) None) n ≡ k
    by-test true h = refl
    by-test false h = omega (arith, ltb-false k n h)

-- ---- numbers

-- digits write 0 where each is 0
digits-zero : (bs : List ℕ) (n : ℕ) → all is_digit bs ≡ true → ltb 0 (digits n bs) ≡ not (eqb n 0 && all (λ b. between 48 b 48) bs)
digits-zero [] zero h = refl
digits-zero [] (suc n) h = rw (lt-ltb 0 (suc n) (omega arith), ne_eqb (suc n) 0 (λ e. omega arith))
digits-zero (b ∷ bs) n h =
    let low : 48 ≤ b = between_low 48 b 57 (and_left (is_digit b) (all is_digit bs) h) in
    let m : ℕ = n * 10 + (b - 48) in
    let e : eqb m 0 ≡ (eqb n 0 && between 48 b 48) =
    same_test (eqb m 0) (eqb n 0 && between 48 b 48)
    (λ z. let q : m ≡ 0 = eqb-true m 0 z in rw (eq-eqb n 0 (omega arith), between-same b 48 (omega arith)))
    (λ z.
    let p : n ≡ 0 = eqb-true n 0 (and_left (eqb n 0) (between 48 b 48) z) in
    let q : b ≤ 48 = between_high 48 b 48 (and_right (eqb n 0) (between 48 b 48) z) in
    eq-eqb m 0 (omega arith))
    in
    digits-zero bs m (and_right (is_digit b) (all is_digit bs) h)
    ∙ ap (λ (t : Bool). not (t && all (λ c. between 48 c 48) bs)) e
    ∙ ap not (and_assoc (eqb n 0) (between 48 b 48) (all (λ c. between 48 c 48) bs))

pub strike_is : (s : List ℕ) → length s ≡ 21 → good_strike s ≡ (all is_digit (part s 13 21) && not (all (λ b. between 48 b 48) (part s 13 21)))
strike_is s l =
    let e : part s 13 21 ≡ drop 13 s = part-rest s 13 21 (omega arith) in
    rw e (and_if (all is_digit (drop 13 s)) (ltb 0 (digits 0 (drop 13 s))) (not (all (λ b. between 48 b 48) (drop 13 s))) (digits-zero (drop 13 s) 0))

-- ---- the date

date_of : (s : List ℕ) → good_symbol s ≡ true → good_date s ≡ true
date_of s g =
    let root : Bool = eqb (length s) 21 && good_root s in
    and_right root (good_date s)
    (and_left (root && good_date s) (good_type s) (and_left (root && good_date s && good_type s) (good_strike s) g))

pub month_least : (s : List ℕ) → good_symbol s ≡ true → 1 ≤ month_of s
month_least s g = between_low 1 (month_of s) 12 (and_right (all is_digit (part s 6 12)) (between 1 (month_of s) 12) (date_of s g))
