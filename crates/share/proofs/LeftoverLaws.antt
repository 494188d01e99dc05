-- Leftover units given by arrays of shares and remainders are those of the rules' parts.
use mathlib.Core.Path.{◌≡◌, refl, ap, sym, ◌∙◌}
use mathlib.Core.List.{List, [], ◌∷◌}
use Prim.Native.Nat.{ℕ, zero, suc, ◌+◌, ◌-◌, ◌*◌, ◌≤◌, ◌<◌, min, max}
use native.Mathlib.Omega.{arith}
use native.Mathlib.Numerals.{add-one}
use native.Mathlib.Decide.{ℕ_discrete, dec_lt}
use native.Mathlib.Nat.{div-add-mod', le_of_mul-le-mul_right, mul-zero, zero-div, zero-mod}
use lib.ListN.{length, take, get_or, set}
use lib.Seq.{take-set-lt, length-take-le, get_or-take}
use lib.Dec.{eqb, ltb}
use borrow.Author.Tests.{lt-ltb, le-ltb, eq-eqb, ne_eqb}
use Rattle.rules.specs.Basics.{sum, pick, zeros}
use Rattle.rules.specs.Share.{Part, parts, gots, lefts, top, one, leftover, shares, in_turn}
use Rattle.rules.proofs.BasicsLaws.{sum_zeros, sum-zero, below-sum}
use Rattle.rules.proofs.ShareLaws.{in_turn-below}
use Rattle.share.specs.Loops.{paired, max_from}

-- the first place of v
abbrev spot : ℕ → List ℕ → ℕ
spot v [] = 0
spot v (x ∷ l) = pick (eqb x v) 0 (spot v l + 1)

max_spot : (k i m : ℕ) (l : List ℕ) → max_from k i m l ≡ pick (ltb m (top l)) (k + spot (top l) l) i
unfolding max_from
max_spot k i m [] = rw (le-ltb m 0 (omega arith))
max_spot k i m (x ∷ l) =
    elim (dec_lt m x) [
      | yes h ↦
          elim (dec_lt x (top l)) [
            | yes j ↦ (
                let e : max x (top l) ≡ top l = omega arith in
                let a : k + 1 + spot (top l) l ≡ k + (spot (max x (top l)) l + 1) = rw e (omega arith) in
                rw (lt-ltb m x h, max_spot (k + 1) k x l, lt-ltb x (top l) j, e, lt-ltb m (top l) (omega arith), ne_eqb x (top l) (λ q. omega arith)) a
                )
            | no j ↦ (
                let e : max x (top l) ≡ x = omega arith in
                let a : k ≡ k + 0 = omega arith in
                rw (lt-ltb m x h, max_spot (k + 1) k x l, le-ltb x (top l) (omega arith), e, lt-ltb m x h, eq-eqb x x refl) a
                )
          ]
      | no h ↦
          elim (dec_lt m (top l)) [
            | yes j ↦ (
                let e : max x (top l) ≡ top l = omega arith in
                let a : k + 1 + spot (top l) l ≡ k + (spot (max x (top l)) l + 1) = rw e (omega arith) in
                rw (le-ltb m x (omega arith), max_spot (k + 1) i m l, lt-ltb m (top l) j, e, lt-ltb m (top l) j, ne_eqb x (top l) (λ q. omega arith)) a
                )
            | no j ↦ (
                rw (le-ltb m x (omega arith), max_spot (k + 1) i m l, le-ltb m (top l) (omega arith), le-ltb m (max x (top l)) (omega arith))
                )
          ]
    ]

spot-zero : (l : List ℕ) → top l ≡ 0 → spot 0 l ≡ 0
spot-zero [] h = refl
spot-zero (x ∷ l) h = rw (eq-eqb x 0 (omega arith))

-- the place of the first of the largest
first-spot : (l : List ℕ) → max_from 0 0 0 l ≡ spot (top l) l
first-spot l =
    elim (dec_lt 0 (top l)) [
      | yes h ↦ (
          let a : 0 + spot (top l) l ≡ spot (top l) l = omega arith in
          rw (max_spot 0 0 0 l, lt-ltb 0 (top l) h) a
          )
      | no h ↦ (
          let e : top l ≡ 0 = omega arith in
          rw (max_spot 0 0 0 l, e) (sym (spot-zero l e))
          )
    ]

spot_in : (v : ℕ) (l : List ℕ) → (v ≡ top l) → 0 < length l → spot v l < length l
spot_in v [] e h = absurd (omega arith)
spot_in v (x ∷ l) e h =
    elim (ℕ_discrete x v) [
      | yes s ↦ rw (eq-eqb x v s) (omega arith)
      | no n ↦ (
          let g : v ≡ top l = omega arith in
          let p : 0 < length l = some l (omega arith) in
          rw (ne_eqb x v n) (omega (arith, spot_in v l g p))
          )
    ]
  where
    some : (l : List ℕ) → 0 < top l → 0 < length l
    some [] h = absurd (omega arith)
    some (x ∷ l) h = omega arith

max_in : (l : List ℕ) → 0 < length l → max_from 0 0 0 l < length l
max_in l h = rw (first-spot l) (spot_in (top l) l refl h)

-- side by side
lefts-paired : (o r : List ℕ) → length o ≡ length r → lefts (paired o r) ≡ r
unfolding paired
lefts-paired [] [] h = refl
lefts-paired [] (y ∷ r) h = absurd (omega arith)
lefts-paired (x ∷ o) [] h = absurd (omega arith)
lefts-paired (x ∷ o) (y ∷ r) h = ap (λ (t : List ℕ). y ∷ t) (lefts-paired o r (omega arith))

gots-paired : (o r : List ℕ) → length o ≡ length r → gots (paired o r) ≡ o
unfolding paired
gots-paired [] [] h = refl
gots-paired [] (y ∷ r) h = absurd (omega arith)
gots-paired (x ∷ o) [] h = absurd (omega arith)
gots-paired (x ∷ o) (y ∷ r) h = ap (λ (t : List ℕ). x ∷ t) (gots-paired o r (omega arith))

one_spot : (v : ℕ) (o r : List ℕ) → length o ≡ length r → one v (paired o r) ≡ paired (set o (spot v r) (get_or o (spot v r) 0 + 1)) (set r (spot v r) 0)
unfolding paired
one_spot v [] [] h = refl
one_spot v [] (y ∷ r) h = absurd (omega arith)
one_spot v (x ∷ o) [] h = absurd (omega arith)
one_spot v (x ∷ o) (y ∷ r) h =
    elim (ℕ_discrete y v) [
      | yes e ↦ rw (eq-eqb y v e)
      | no e ↦ rw (ne_eqb y v e, add-one (spot v r), one_spot v o r (omega arith))
    ]

give_step : (n : ℕ) (o r : List ℕ) → length o ≡ length r → 0 < n
    → (let i = max_from 0 0 0 r in leftover (n - 1) (paired (set o i (get_or o i 0 + 1)) (set r i 0))) ≡ leftover n (paired o r)
give_step zero o r h p = absurd (omega arith)
give_step (suc n) o r h p =
    let e : suc n - 1 ≡ n = omega arith in
    rw (e, first-spot r, lefts-paired o r h, one_spot (top r) o r h)

give_end : (n : ℕ) (o r : List ℕ) → length o ≡ length r → n ≡ 0 → o ≡ gots (leftover n (paired o r))
give_end n o r h e = rw (e, gots-paired o r h)

paired-parts : (ps : List Part) → paired (gots ps) (lefts ps) ≡ ps
unfolding paired
paired-parts [] = refl
paired-parts (p ∷ ps) = ap (λ (l : List Part). p ∷ l) (paired-parts ps)

pub start_is : (a t down : ℕ) (ss o r : List ℕ) → t ≡ sum ss → o ≡ gots (parts a t ss) → r ≡ lefts (parts a t ss) → down ≡ sum o
    → gots (leftover (a - down) (paired o r)) ≡ shares a ss
unfolding shares
start_is a t down ss o r e f g d = rw (d, f, g, e, paired-parts (parts a (sum ss) ss))

-- ---- sums

sum-set : (l : List ℕ) (i v : ℕ) → i < length l → sum (set l i v) + get_or l i 0 ≡ sum l + v
sum-set [] i v h = absurd (omega arith)
sum-set (x ∷ l) zero v h = omega arith
sum-set (x ∷ l) (suc i) v h = omega (arith, sum-set l i v (omega arith))

get_d_sum : (l : List ℕ) (i : ℕ) → get_or l i 0 ≤ sum l
get_d_sum [] i = omega arith
get_d_sum (x ∷ l) zero = omega arith
get_d_sum (x ∷ l) (suc i) = omega (arith, get_d_sum l i)

exact : (a t : ℕ) (ss : List ℕ) → sum (gots (parts a t ss)) * t + sum (lefts (parts a t ss)) ≡ a * sum ss
exact a t [] = omega arith
exact a t (s ∷ ss) = omega (arith, exact a t ss, div-add-mod' (a * s) t)

pub floors_fit : (a t : ℕ) (ss o : List ℕ) → o ≡ gots (parts a t ss) → t ≡ sum ss → 0 < t → sum o ≤ a
floors_fit a t ss o f e p = rw f (le_of_mul-le-mul_right {k = t} (omega (arith, exact a t ss, ap (λ (z : ℕ). a * z) e)) p)

-- ---- over the first n places of arrays

pub some_n : (n t : ℕ) (l : List ℕ) → t ≡ sum (take n l) → 0 < t → 0 < n
some_n zero t l e h = absurd (omega arith)
some_n (suc n) t l e h = omega arith

pub pick_in : (n i : ℕ) (r : List ℕ) → n ≤ length r → 0 < n → i ≡ max_from 0 0 0 (take n r) → i < n
pick_in n i r h p e =
    let q : length (take n r) ≡ n = length-take-le n r h in
    omega (arith, max_in (take n r) (omega arith))

pub share_step : (n i left : ℕ) (o r : List ℕ) → n ≤ length o → n ≤ length r → i < n → i ≡ max_from 0 0 0 (take n r) → 0 < left
    → gots (leftover (left - 1) (paired (take n (set o i (get_or o i 0 + 1))) (take n (set r i 0)))) ≡ gots (leftover left (paired (take n o) (take n r)))
share_step n i left o r ho hr j e p =
    let l : length (take n o) ≡ length (take n r) = length-take-le n o ho ∙ sym (length-take-le n r hr) in
    let s : leftover (left - 1) (paired (set (take n o) i (get_or (take n o) i 0 + 1)) (set (take n r) i 0)) ≡ leftover left (paired (take n o) (take n r)) =
    rw e (give_step left (take n o) (take n r) l p) in
    rw (take-set-lt n o i (get_or o i 0 + 1) j, take-set-lt n r i 0 j, ← get_or-take n o i 0 j, s)

pub share_sum : (n i : ℕ) (o : List ℕ) → n ≤ length o → i < n → sum (take n (set o i (get_or o i 0 + 1))) ≡ sum (take n o) + 1
share_sum n i o h j =
    let q : length (take n o) ≡ n = length-take-le n o h in
    rw (take-set-lt n o i (get_or o i 0 + 1) j)
    (omega (arith, sum-set (take n o) i (get_or o i 0 + 1) (omega arith), get_or-take n o i 0 j))

pub share_most : (n i : ℕ) (o : List ℕ) → i < n → get_or o i 0 ≤ sum (take n o)
share_most n i o j = omega (arith, get_d_sum (take n o) i, get_or-take n o i 0 j)

pub share_end : (n left : ℕ) (o r : List ℕ) → n ≤ length o → n ≤ length r → left ≡ 0 → take n o ≡ gots (leftover left (paired (take n o) (take n r)))
share_end n left o r ho hr e = give_end left (take n o) (take n r) (length-take-le n o ho ∙ sym (length-take-le n r hr)) e

-- ---- sizes of 0 only

give_first : (n g : ℕ) (ps : List Part) → top (lefts ps) ≡ 0 → gots (leftover n (record { got = g; left = 0 } ∷ ps)) ≡ (g + n) ∷ gots ps
give_first zero g ps h = let e : g ≡ g + 0 = omega arith in ap (λ (x : ℕ). x ∷ gots ps) e
give_first (suc n) g ps h =
    let e : g + 1 + n ≡ g + suc n = omega arith in
    rw (h, ← e) (give_first n (g + 1) ps h)

give_nobody : (n : ℕ) → leftover n [] ≡ []
give_nobody zero = refl
give_nobody (suc n) = give_nobody n

-- nobody gets a share, nobody has a remainder, and nobody gets anything in turn
none_got : (a t : ℕ) (ss : List ℕ) → sum ss ≡ 0 → gots (parts a t ss) ≡ zeros ss
none_got a t [] h = refl
none_got a t (s ∷ ss) h = let z : s ≡ 0 = omega arith in rw (z, mul-zero, zero-div, none_got a t ss (omega arith))

none_left : (a t : ℕ) (ss : List ℕ) → sum ss ≡ 0 → top (lefts (parts a t ss)) ≡ 0
none_left a t [] h = refl
none_left a t (s ∷ ss) h = let z : s ≡ 0 = omega arith in rw (z, mul-zero, zero-mod, none_left a t ss (omega arith))

none_turn : (a : ℕ) (ss : List ℕ) → sum ss ≡ 0 → in_turn a ss ≡ zeros ss
none_turn a ss h = sum-zero (in_turn a ss) ss (in_turn-below a ss) (omega (arith, below-sum (in_turn a ss) ss (in_turn-below a ss)))

-- a size of 0 has no part
zero_part : (a t s : ℕ) (ss : List ℕ) → s ≡ 0 → parts a t (s ∷ ss) ≡ record { got = 0; left = 0 } ∷ parts a t ss
zero_part a t s ss z = rw (z, mul-zero, zero-div, zero-mod)

shares-first : (a : ℕ) (ss : List ℕ) → sum ss ≡ 0 → set (in_turn a ss) 0 a ≡ shares a ss
unfolding shares in_turn
shares-first a [] h = sym (ap gots (give_nobody (a - 0)))
shares-first a (s ∷ ss) h =
    let z : s ≡ 0 = omega arith in
    let n : sum ss ≡ 0 = omega arith in
    let t : ℕ = s + sum ss in
    let e : parts a t (s ∷ ss) ≡ record { got = 0; left = 0 } ∷ parts a t ss = zero_part a t s ss z in
    let q : 0 + (a - (0 + sum (zeros ss))) ≡ a = omega (arith, sum_zeros ss) in
    let g : a ∷ in_turn (a - s) ss ≡ gots (leftover (a - (0 + sum (gots (parts a t ss)))) (record { got = 0; left = 0 } ∷ parts a t ss)) =
    rw (none_turn (a - s) ss n, none_got a t ss n, give_first (a - (0 + sum (zeros ss))) 0 (parts a t ss) (none_left a t ss n), q, none_got a t ss n) in
    g ∙ ap (λ (ps : List Part). gots (leftover (a - sum (gots ps)) ps)) (sym e)

first-set : (n a : ℕ) (l : List ℕ) → take n (set l 0 a) ≡ set (take n l) 0 a
first-set zero a l = refl
first-set (suc n) a [] = refl
first-set (suc n) a (x ∷ l) = refl

pub first_is : (n a : ℕ) (ss out : List ℕ) → n ≤ 66 → sum (take n ss) ≡ 0 → take (min n 66) out ≡ in_turn a (take (min n 66) ss) → take n (set out 0 a) ≡ shares a (take n ss)
first_is n a ss out h z e =
    let m : min n 66 ≡ n = omega arith in
    first-set n a out ∙ ap (λ (l : List ℕ). set l 0 a) (rw m at e) ∙ shares-first a (take n ss) z

pub none_is : (n a : ℕ) (ss out : List ℕ) → n ≤ 0 → take n out ≡ shares a (take n ss)
unfolding in_turn
none_is zero a ss out h = shares-first a [] refl
none_is (suc n) a ss out h = absurd (omega arith)
