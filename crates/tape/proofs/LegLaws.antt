-- The bytes of a leg's symbol, one by one.
use mathlib.Core.Path.{◌≡◌, refl, sym, ap, ◌∙◌}
use mathlib.Core.List.{List, [], ◌∷◌, ◌++◌}
use Prim.Native.Nat.{ℕ, zero, suc, ◌+◌, ◌-◌, ◌<◌}
use native.Mathlib.Numerals.{add-one}
use native.Mathlib.Omega.{arith}
use lib.ListN.{length, get_or, take, drop, set}
use lib.Seq.{take-suc-set, get_or-drop, drop-drop}
use Rattle.rules.specs.Tape.{bytes_of}
use Rattle.types.specs.View.{upto, from}
use Rattle.types.proofs.TableLaws.{from_last}

-- the first n bytes as a table
abbrev pub bytes_at : ℕ → List ℕ → List ℕ
bytes_at n p = from (λ i. get_or p i 0) 0 n

-- one byte more
pub bytes_more : (s p : List ℕ) (i : ℕ) → i < length s → take i s ≡ bytes_at i p → take (i + 1) (set s i (get_or p i 0)) ≡ bytes_at (i + 1) p
bytes_more s p i h e =
    ap (λ (k : ℕ). take k (set s i (get_or p i 0))) (add-one i) ∙ take-suc-set s i (get_or p i 0) h ∙ ap (λ (l : List ℕ). l ++ (get_or p i 0 ∷ [])) e
    ∙ sym (from_last (λ k. get_or p k 0) i)

-- from byte k on
bytes_from : (p : List ℕ) (k n : ℕ) → upto (λ i. get_or p i 0) k n ≡ bytes_of n (drop k p)
unfolding upto
bytes_from p k zero = refl
bytes_from p k (suc n) =
    let z : k + 0 ≡ k = omega arith in
    rw (get_or-drop k p 0 0, z, drop-drop 1 k p, bytes_from p (k + 1) n)

pub bytes_are : (n : ℕ) (p : List ℕ) → bytes_at n p ≡ bytes_of n p
bytes_are n p =
    let z : n - 0 ≡ n = omega arith in
    ap (λ (k : ℕ). upto (λ i. get_or p i 0) 0 k) z ∙ bytes_from p 0 n
