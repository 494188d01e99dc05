-- A part of a symbol, and a condition on each of its bytes.
use mathlib.Core.Path.{◌≡◌, refl, sym, ap, ◌∙◌}
use mathlib.Core.Bool.{Bool, ◌&&◌}
use mathlib.Core.List.{List, [], ◌∷◌}
use Prim.Native.Nat.{ℕ, ◌+◌, ◌-◌, ◌≤◌}
use native.Mathlib.Omega.{arith}
use lib.ListN.{length, take, drop, length-drop}
use lib.Seq.{take_all}
use Rattle.std.proofs.lemmas.List.{drop-take}
use Rattle.std.specs.List.{list_all}
use Rattle.rules.specs.Basics.{all}
use Rattle.series.specs.Parts.{part}

pub part-rest : (s : List ℕ) (k n : ℕ) → length s ≤ n → part s k n ≡ drop k s
part-rest s k n l = take_all (n - k) (drop k s) (rw length-drop (omega arith))

-- what the root has from a place on
pub part_root : (s : List ℕ) (k : ℕ) → k ≤ 6 → part s k 6 ≡ drop k (take 6 s)
part_root s k h =
    let e : k + (6 - k) ≡ 6 = omega arith in
    sym (ap (λ (n : ℕ). drop k (take n s)) (sym e) ∙ drop-take k (6 - k) s)

-- a condition on each of a list, as the library tells it
pub all-list : (f : ℕ → Bool) (bs : List ℕ) → all f bs ≡ list_all f bs
all-list f [] = refl
all-list f (b ∷ bs) = ap (λ (t : Bool). f b && t) (all-list f bs)
