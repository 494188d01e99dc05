-- A pass over one column, and flags made one after another: what is behind is done, what is ahead is as it was.
use mathlib.Core.Path.{◌≡◌, refl}
use mathlib.Core.Bool.{Bool, false}
use mathlib.Core.List.{List}
use Prim.Native.Nat.{ℕ, ◌+◌, ◌≤◌, ◌<◌}
use native.Mathlib.Omega.{arith}
use borrow.Author.Count.{below_more}
use lib.ListN.{length, get_or, set, length-set}
use lib.Seq.{get_or-set_same, get_or-set_other}
use Rattle.state.specs.Layout as L
use Rattle.state.specs.Layout.{WordsSized}
use Rattle.state.specs.Stores.{Kept}
use Rattle.state.proofs.StoreLaws.{kept_all, kept_set, done_at, ahead-at}

-- the pass over the column that begins at a has come to place k: P holds of what it stored
pub record Passed (a : ℕ) (P : ℕ → ℕ → Type 0) (old new : List ℕ) (k : ℕ) : Type 0 where
  pub sized : WordsSized new
  pub kept : Kept a (a + 64) old new
  pub done : (i : ℕ) → i < k → P i (get_or new (a + i) 0)
  pub ahead : (i : ℕ) → k ≤ i → get_or new (a + i) 0 ≡ get_or old (a + i) 0

module _ (a : ℕ) (P : ℕ → ℕ → Type 0) (old : List ℕ) where
  pub passed_none : WordsSized old → Passed a P old old 0
  passed_none s = record { sized = s; kept = kept_all a (a + 64) old; done = λ i h. absurd (omega arith); ahead = λ i h. refl }

  pub passed-one : (new : List ℕ) (k x : ℕ) → a ≤ L.stages → k < 64 → Passed a P old new k → P k x → Passed a P old (set new (a + k) x) (k + 1)
  passed-one new k x q h v p =
      let s = v.sized in
      record {
        sized = simp length-set s;
        kept = kept_set a (a + 64) old new (a + k) x (omega arith) (omega arith) v.kept;
        done = done_at a new k x P (omega arith) p v.done;
        ahead = ahead-at a new k x old v.ahead;
      }

pub flag_more : (l : List Bool) (k : ℕ) (x : Bool) (P : ℕ → Bool → Type 0) → k < length l → P k x → ((i : ℕ) → i < k → P i (get_or l i false)) → (i : ℕ) → i < k + 1 → P i (get_or (set l k x) i false)
flag_more l k x P h p before =
    below_more (λ i. P i (get_or (set l k x) i false)) k (λ i j. rw (get_or-set_other l k i x false (λ (e : i ≡ k). omega arith)) (before i j)) (rw (get_or-set_same l k x false h) p)
