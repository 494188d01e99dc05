-- One step of each loop over the first n places of an array, and its end.
use mathlib.Core.Path.{◌≡◌, ap}
use mathlib.Core.List.{List, [], ◌∷◌, ◌++◌, append-nil}
use Prim.Native.Nat.{ℕ, ◌+◌, ◌-◌, ◌*◌, ◌/◌, ◌%◌, ◌≤◌, ◌<◌, ◌^◌, min}
use native.Mathlib.Omega.{arith}
use native.Mathlib.Numerals.{add-one}
use native.Mathlib.Nat.{mul-le-mul_left, mul-le-mul_right, div-add-mod', le_of_mul-le-mul_right}
use lib.ListN.{length, take, drop, get_or, set, length-take, drop_of_length-le}
use lib.Seq.{drop-cons, take-suc-set, append_snoc, get_or-take, length-take-le}
use borrow.Author.Tests.{lt-ltb, le-ltb}
use Rattle.rules.specs.Basics.{sum}
use Rattle.rules.specs.Share.{parts, gots, lefts, in_turn}
use Rattle.share.specs.Loops.{max_from}

-- ---- every loop

pub row : (n i : ℕ) (l : List ℕ) → n ≤ length l → i < n → drop i (take n l) ≡ get_or l i 0 ∷ drop (i + 1) (take n l)
row n i l h j =
    let e : length (take n l) ≡ n = length-take-le n l h in
    rw (add-one, ← get_or-take n l i 0 j) (drop-cons (take n l) i 0 (omega arith))

pub row_end : (n i : ℕ) (l : List ℕ) → n ≤ i → drop i (take n l) ≡ []
row_end n i l h =
    let e : length (take n l) ≤ i = omega (arith, length-take n l) in
    drop_of_length-le (take n l) e

pub push : (w : ℕ) (l t : List ℕ) (x : ℕ) → w < length l → take (w + 1) (set l w x) ++ t ≡ take w l ++ (x ∷ t)
push w l t x h = rw (add-one, take-suc-set, append_snoc)

pub done : (n i : ℕ) (l t : List ℕ) → n ≤ i → i ≤ n → t ≡ [] → take i l ++ t ≡ take n l
done n i l t h j e =
    let s : i ≡ n = omega arith in
    rw (s, e, append-nil)

-- ---- the loops of this crate

module _ (n i : ℕ) (ss : List ℕ) (hs : n ≤ length ss) (j : i < n) where
  pub sum_step : sum (drop i (take n ss)) ≡ get_or ss i 0 + sum (drop (i + 1) (take n ss))
  sum_step = ap sum (row n i ss hs j)

  pub turn_step : (a : ℕ) (out : List ℕ) → n ≤ length out
      → take (i + 1) (set out i (min a (get_or ss i 0))) ++ in_turn (a - min a (get_or ss i 0)) (drop (i + 1) (take n ss)) ≡ take i out ++ in_turn a (drop i (take n ss))
  unfolding in_turn
  turn_step a out h =
      let e : a - min a (get_or ss i 0) ≡ a - get_or ss i 0 = omega arith in
      rw (row n i ss hs j, e) (push i out (in_turn (a - get_or ss i 0) (drop (i + 1) (take n ss))) (min a (get_or ss i 0)) (omega arith))

  pub gots-step : (a t : ℕ) (out : List ℕ) → n ≤ length out
      → take (i + 1) (set out i (a * get_or ss i 0 / t)) ++ gots (parts a t (drop (i + 1) (take n ss))) ≡ take i out ++ gots (parts a t (drop i (take n ss)))
  gots-step a t out h = rw (row n i ss hs j) (push i out (gots (parts a t (drop (i + 1) (take n ss)))) (a * get_or ss i 0 / t) (omega arith))

  pub lefts-step : (a t : ℕ) (out : List ℕ) → n ≤ length out
      → take (i + 1) (set out i (a * get_or ss i 0 % t)) ++ lefts (parts a t (drop (i + 1) (take n ss))) ≡ take i out ++ lefts (parts a t (drop i (take n ss)))
  lefts-step a t out h = rw (row n i ss hs j) (push i out (lefts (parts a t (drop (i + 1) (take n ss)))) (a * get_or ss i 0 % t) (omega arith))

  pub max-more : (a m : ℕ) → m < get_or ss i 0 → max_from (i + 1) i (get_or ss i 0) (drop (i + 1) (take n ss)) ≡ max_from i a m (drop i (take n ss))
  unfolding max_from
  max-more a m e = rw (row n i ss hs j, lt-ltb m (get_or ss i 0) e)

  pub max-less : (a m : ℕ) → get_or ss i 0 ≤ m → max_from (i + 1) a m (drop (i + 1) (take n ss)) ≡ max_from i a m (drop i (take n ss))
  unfolding max_from
  max-less a m e = rw (row n i ss hs j, le-ltb m (get_or ss i 0) e)

module _ (n i : ℕ) (h : n ≤ i) (ss : List ℕ) where
  pub sum-end : sum (drop i (take n ss)) ≡ 0
  sum-end = rw (row_end n i ss h)

  pub turn_end : (a : ℕ) → in_turn a (drop i (take n ss)) ≡ []
  unfolding in_turn
  turn_end a = rw (row_end n i ss h)

  pub gots-end : (a t : ℕ) → gots (parts a t (drop i (take n ss))) ≡ []
  gots-end a t = rw (row_end n i ss h)

  pub lefts-end : (a t : ℕ) → lefts (parts a t (drop i (take n ss))) ≡ []
  lefts-end a t = rw (row_end n i ss h)

  pub max-end : (a m : ℕ) → max_from i a m (drop i (take n ss)) ≡ a
  unfolding max_from
  max-end a m = rw (row_end n i ss h)

-- ---- bounds

pub product_fits : (a b : ℕ) → a < 2 ^ 32 → b < 2 ^ 32 → a * b < 2 ^ 64
product_fits a b h k = omega (arith, mul-le-mul_left a p, mul-le-mul_right 4294967295 q)
  where
    p : b ≤ 4294967295
    p = omega arith

    q : a ≤ 4294967295
    q = omega arith

-- an exact share rounded down is at most the amount
pub floor_small : (a s all : ℕ) → 0 < all → s ≤ all → a * s / all ≤ a
floor_small a s all p h = le_of_mul-le-mul_right {k = all} (omega (arith, div-add-mod' (a * s) all, mul-le-mul_left a h)) p
