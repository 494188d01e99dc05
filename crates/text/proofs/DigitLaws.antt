-- The digits of a number: one step of them, and how many there are.
use mathlib.Core.Path.{◌≡◌, refl}
use mathlib.Core.Bool.{Bool, true, false}
use mathlib.Core.List.{List, [], ◌∷◌, ◌++◌}
use Prim.Native.Nat.{ℕ, zero, suc, ◌+◌, ◌*◌, ◌/◌, ◌%◌, ◌≤◌, ◌<◌, ◌^◌}
use native.Mathlib.Omega.{arith}
use lib.Dec.{ltb}
use lib.ListN.{length, length-append}
use borrow.Author.Tests.{lt-ltb, le-ltb}
use Rattle.rules.specs.Basics.{pick}
use Rattle.text.specs.Text.{digit, digits_in, digits}

-- more steps than a number counts change nothing
enough : (k m n : ℕ) → n ≤ k → n ≤ m → digits_in k n ≡ digits_in m n
unfolding digits_in
enough zero zero n a b = refl
enough zero (suc m) n a b = rw (lt-ltb n 10 (omega arith))
enough (suc k) zero n a b = rw (lt-ltb n 10 (omega arith))
enough (suc k) (suc m) n a b = rw (enough k m (n / 10) (omega arith) (omega arith))

pub digits-one : (n : ℕ) → n < 10 → digits n ≡ digit n ∷ []
unfolding digits_in
digits-one zero h = refl
digits-one (suc k) h = rw (lt-ltb (suc k) 10 h)

pub digits_more : (n : ℕ) → 10 ≤ n → digits n ≡ digits (n / 10) ++ (digit (n % 10) ∷ [])
unfolding digits_in
digits_more zero h = absurd (omega arith)
digits_more (suc k) h = rw (le-ltb (suc k) 10 h, enough k (suc k / 10) (suc k / 10) (omega arith) (omega arith))

pub one-length : (n : ℕ) → n < 10 → length (digits n) ≡ 1
one-length n h = rw (digits-one n h)

pub more_length : (n : ℕ) → 10 ≤ n → length (digits n) ≡ length (digits (n / 10)) + 1
more_length n h = rw (digits_more n h, length-append)

-- 10 to the power of j + 1
abbrev tens : ℕ → ℕ
tens zero = 10
tens (suc j) = 10 * tens j

pick-short : (b : Bool) (xs ys : List ℕ) (m : ℕ) → length xs ≤ m → length ys ≤ m → length (pick b xs ys) ≤ m
pick-short true xs ys m p q = p
pick-short false xs ys m p q = q

short : (j k n : ℕ) → n < tens j → length (digits_in k n) ≤ j + 1
unfolding digits_in
short zero zero n h = omega arith
short zero (suc k) n h = rw (lt-ltb n 10 h) (omega arith)
short (suc j) zero n h = omega arith
short (suc j) (suc k) n h =
    pick-short (ltb n 10) (digit n ∷ []) (digits_in k (n / 10) ++ (digit (n % 10) ∷ [])) (suc j + 1) (omega arith)
    (rw length-append (omega (arith, short j k (n / 10) (omega arith))))

-- 20 digits are enough for 64 bits
pub digits-short : (n : ℕ) → n < 2 ^ 64 → length (digits n) ≤ 20
digits-short n h =
    let t : tens 19 ≡ 100000000000000000000 = refl in
    short 19 n n (omega arith)
