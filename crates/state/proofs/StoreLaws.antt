-- What stores, and a pass over one column, change and leave as it was.
use mathlib.Core.Path.{◌≡◌, refl, ◌∙◌}
use mathlib.Core.List.{List, [], ◌∷◌}
use Prim.Native.Nat.{ℕ, suc, ◌+◌, ◌≤◌, ◌<◌}
use native.Mathlib.Omega.{arith}
use borrow.Author.Count.{below_more}
use lib.ListN.{length, get_or, set, length-set}
use lib.Seq.{get_or-set_same, get_or-set_other}
use Rattle.rules.specs.Basics.{All}
use Rattle.state.specs.Stores.{Kept, Store, stores}

-- ---- stores

-- a place where none of them stores is as it was
pub stores_other : (l : List ℕ) (ss : List Store) (i : ℕ) → All (λ s. i ≡ s.at → ⊥) ss → get_or (stores l ss) i 0 ≡ get_or l i 0
stores_other l [] i o = refl
stores_other l (s ∷ ss) i o = stores_other (set l s.at s.number) ss i o.1 ∙ get_or-set_other l s.at i s.number 0 o.0

-- a store that none behind it covers is read back
pub stores_here : (l : List ℕ) (s : Store) (ss : List Store) → s.at < length l → All (λ t. s.at ≡ t.at → ⊥) ss → get_or (stores l (s ∷ ss)) s.at 0 ≡ s.number
stores_here l s ss h o = stores_other (set l s.at s.number) ss s.at o ∙ get_or-set_same l s.at s.number 0 h

pub stores-length : (l : List ℕ) (ss : List Store) → length (stores l ss) ≡ length l
stores-length l [] = refl
stores-length l (s ∷ ss) = stores-length (set l s.at s.number) ss ∙ length-set l s.at s.number

-- stores at rising places, from a on and before b
abbrev pub Rising : ℕ → ℕ → List Store → Type 0
Rising a b [] = Unit {0}
Rising a b (s ∷ ss) = (a ≤ s.at) × (s.at < b) × Rising (suc s.at) b ss

rising_past : (a b i : ℕ) (ss : List Store) → i < a → Rising a b ss → All (λ s. i ≡ s.at → ⊥) ss
rising_past a b i [] h r = tt
rising_past a b i (s ∷ ss) h r = (λ e. omega (arith, r.0), rising_past (suc s.at) b i ss (omega (arith, r.0)) r.2)

rising_short : (a b i : ℕ) (ss : List Store) → b ≤ i → Rising a b ss → All (λ s. i ≡ s.at → ⊥) ss
rising_short a b i [] h r = tt
rising_short a b i (s ∷ ss) h r = (λ e. omega (arith, r.1), rising_short (suc s.at) b i ss h r.2)

-- all of them are read back
pub rising_read : (l : List ℕ) (a b : ℕ) (ss : List Store) → b ≤ length l → Rising a b ss → All (λ s. get_or (stores l ss) s.at 0 ≡ s.number) ss
rising_read l a b [] z r = tt
rising_read l a b (s ∷ ss) z r = (
  stores_here l s ss (omega (arith, r.1)) (rising_past (suc s.at) b s.at ss (omega arith) r.2),
  rising_read (set l s.at s.number) (suc s.at) b ss (simp length-set z) r.2,
)

-- outside these bounds all is as it was
pub rising_kept : (l : List ℕ) (a b : ℕ) (ss : List Store) → Rising a b ss → Kept a b l (stores l ss)
rising_kept l a b ss r = record { below = λ i h. stores_other l ss i (rising_past a b i ss h r); above = λ i h. stores_other l ss i (rising_short a b i ss h r) }

-- ---- what is kept

pub kept_all : (a b : ℕ) (l : List ℕ) → Kept a b l l
kept_all a b l = record { below = λ i h. refl; above = λ i h. refl }

-- a store among the places from a to before b
pub kept_set : (a b : ℕ) (l₀ l : List ℕ) (j x : ℕ) → a ≤ j → j < b → Kept a b l₀ l → Kept a b l₀ (set l j x)
kept_set a b l₀ l j x p q keep =
    record {
      below = λ i h. get_or-set_other l j i x 0 (λ (e : i ≡ j). omega arith) ∙ keep.below i h;
      above = λ i h. get_or-set_other l j i x 0 (λ (e : i ≡ j). omega arith) ∙ keep.above i h;
    }

-- one after the other, within wider bounds
pub kept_then : (a b a₁ b₁ a₂ b₂ : ℕ) (l m n : List ℕ) → a ≤ a₁ → b₁ ≤ b → a ≤ a₂ → b₂ ≤ b → Kept a₁ b₁ l m → Kept a₂ b₂ m n → Kept a b l n
kept_then a b a₁ b₁ a₂ b₂ l m n p q r s k j =
    record {
      below = λ i h. j.below i (omega arith) ∙ k.below i (omega arith);
      above = λ i h. j.above i (omega arith) ∙ k.above i (omega arith);
    }

-- ---- a pass over the column that begins at a: what is behind is done, what is ahead is as it was

module _ (a : ℕ) (l : List ℕ) (k x : ℕ) where
  pub done_at : (P : ℕ → ℕ → Type 0) → a + k < length l → P k x → ((i : ℕ) → i < k → P i (get_or l (a + i) 0)) → (i : ℕ) → i < k + 1 → P i (get_or (set l (a + k) x) (a + i) 0)
  done_at P h p before =
      below_more (λ i. P i (get_or (set l (a + k) x) (a + i) 0)) k (λ i j. rw (get_or-set_other l (a + k) (a + i) x 0 (λ (e : a + i ≡ a + k). omega arith)) (before i j)) (rw (get_or-set_same l (a + k) x 0 h) p)

  pub ahead-at : (l₀ : List ℕ) → ((i : ℕ) → k ≤ i → get_or l (a + i) 0 ≡ get_or l₀ (a + i) 0) → (i : ℕ) → k + 1 ≤ i → get_or (set l (a + k) x) (a + i) 0 ≡ get_or l₀ (a + i) 0
  ahead-at l₀ same i h = get_or-set_other l (a + k) (a + i) x 0 (λ (e : a + i ≡ a + k). omega arith) ∙ same i (omega arith)
