-- Writes that follow each other, and a write from the start on.
use mathlib.Core.Path.{◌≡◌, sym, subst, ◌∙◌}
use mathlib.Core.List.{List, ◌++◌}
use Prim.Native.Nat.{ℕ, ◌+◌, ◌≤◌}
use native.Mathlib.Omega.{arith}
use lib.ListN.{length, length-append}
use lib.Seq.{sets-eq, length-sets}
use Rattle.text.specs.Buffer.{Wrote, Put}
use Rattle.text.proofs.SetsLaws.{sets_append}

-- two writes, the second behind the first
pub join : {xs ys l m n : List ℕ} {at r s : ℕ} → Wrote xs at l r m → Wrote ys r m s n → Wrote (xs ++ ys) at l s n
join {xs} {ys} {l} {m} {n} {at} {r} {s} a b =
    record {
      end = let e = length-append xs ys in omega (arith, a.end, b.end);
      holds = b.holds ∙ rw (a.holds, a.end) (sym (sets_append xs ys l at));
    }

-- the same bytes
pub same : {xs ys l m : List ℕ} {at r : ℕ} → xs ≡ ys → Wrote xs at l r m → Wrote ys at l r m
same {xs} {ys} {l} {m} {at} {r} e w = subst (λ (bs : List ℕ). Wrote bs at l r m) e w

-- a write from the start on leaves what stands behind it
pub whole : {bs l m : List ℕ} {r : ℕ} → Wrote bs 0 l r m → length l ≡ 128 → r ≤ 128 → Put bs l r m
whole {bs} {l} {m} {r} w e h =
    let z : 0 + length bs ≡ length bs = omega arith in
    (w.end ∙ z, w.holds ∙ rw z at (sets-eq bs l 0 (omega (arith, w.end))), h, rw w.holds (length-sets l 0 bs ∙ e))
