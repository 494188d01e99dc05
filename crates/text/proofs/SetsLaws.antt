-- Bytes written from an offset of a list on, as far as it reaches.
use mathlib.Core.Path.{◌≡◌, refl, ap, sym, ◌∙◌}
use mathlib.Core.List.{List, [], ◌∷◌, ◌++◌, append_assoc}
use Prim.Native.Nat.{ℕ, zero, suc, ◌+◌, ◌-◌, ◌≤◌, min}
use native.Mathlib.Decide.{dec_lt}
use native.Mathlib.Omega.{arith}
use lib.ListN.{length, set, take, drop}
use lib.Seq.{sets, sets-eq, length-sets, take_all, drop-drop}
use borrow.Rule.Slice.PartMut.{put_mid}
use Rattle.std.proofs.lemmas.List.{take-append-drop, length-take-le, take-take}

set_past : (l : List ℕ) (k x : ℕ) → length l ≤ k → set l k x ≡ l
set_past [] k x h = refl
set_past (y ∷ l) zero x h = absurd (omega arith)
set_past (y ∷ l) (suc k) x h = ap (λ (r : List ℕ). y ∷ r) (set_past l k x (omega arith))

-- past the end nothing is written
pub sets_past : (xs l : List ℕ) (k : ℕ) → length l ≤ k → sets l k xs ≡ l
sets_past [] l k h = refl
sets_past (x ∷ xs) l k h = let e = set_past l k x h in ap (λ (r : List ℕ). sets r (suc k) xs) e ∙ sets_past xs l (suc k) (omega arith)

-- one text, then another
pub sets_append : (xs ys l : List ℕ) (k : ℕ) → sets l k (xs ++ ys) ≡ sets (sets l k xs) (k + length xs) ys
sets_append [] ys l k = let z : k + zero ≡ k = omega arith in rw z refl
sets_append (x ∷ xs) ys l k = let z : k + suc (length xs) ≡ suc k + length xs = omega arith in rw z (sets_append xs ys (set l k x) (suc k))

-- an offset past the end is as good as the end
pub sets_least : (xs l : List ℕ) (k n : ℕ) → n ≡ length l → sets l (min k n) xs ≡ sets l k xs
sets_least xs l k n e =
    elim (dec_lt k n) [
      | yes h ↦ let z : min k n ≡ k = omega arith in rw z refl
      | no h ↦ sets_past xs l (min k n) (omega (arith, h)) ∙ sym (sets_past xs l k (omega (arith, h)))
    ]

-- after the n bytes none is left
none_after : (l : List ℕ) (n : ℕ) → drop n (take n l) ≡ []
none_after l zero = refl
none_after [] (suc n) = refl
none_after (x ∷ l) (suc n) = none_after l n

-- what is left of a line once as much as fits is written
pub all-added : (line out : List ℕ) (at n i : ℕ) → i ≡ min n (length out - at) → at ≤ length out → sets out (at + i) (drop i (take n line)) ≡ out
all-added line out at n i e h =
    elim (dec_lt (length out - at) n) [
      | yes l ↦ sets_past (drop i (take n line)) out (at + i) (omega arith)
      | no l ↦ let z : i ≡ n = omega (arith, l) in rw z (ap (sets out (at + n)) (none_after line n))
    ]

-- bytes copied over a part
pub part-set : (l bs xs : List ℕ) (at n : ℕ) → n ≡ length bs → xs ≡ bs → at + length bs ≤ length l → put_mid at n l xs ≡ sets l at bs
part-set l bs xs at n e f h = rw (e, f, drop-drop (length bs) at l) (sym (sets-eq bs l at h ∙ append_assoc (take at l) bs (drop (at + length bs) l)))

-- as many bytes as there is room for
pub sets_room : (line l : List ℕ) (at n m : ℕ) → m ≡ min n (length l - at) → at ≤ length l → n ≤ length line → sets l at (take m line) ≡ sets l at (take n line)
sets_room line l at n m e h k =
    let bs : List ℕ = take m line in
    let rest : List ℕ = drop m (take n line) in
    let size : length bs ≡ m = length-take-le m line (omega arith) in
    let long : length (sets l at bs) ≡ length l = length-sets l at bs in
    sym
    (ap (sets l at) (sym (take-append-drop m (take n line)))
    ∙ ap (λ (xs : List ℕ). sets l at (xs ++ rest)) (take-take m n line (omega arith))
    ∙ sets_append bs rest l at
    ∙ ap (λ (j : ℕ). sets (sets l at bs) (at + j) rest) size
    ∙ all-added line (sets l at bs) at n m (omega arith) (omega arith))

-- more bytes than there are
pub take_least : (l : List ℕ) (n m : ℕ) → m ≡ length l → take (min n m) l ≡ take n l
take_least l n m e =
    elim (dec_lt n m) [
      | yes h ↦ let z : min n m ≡ n = omega arith in rw z refl
      | no h ↦ take_all (min n m) l (omega (arith, h)) ∙ sym (take_all n l (omega (arith, h)))
    ]
