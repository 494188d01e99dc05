-- An entry stored in the book: read back, the others as they were, and nothing outside the book touched.
use mathlib.Core.Path.{◌≡◌, refl, ◌∙◌}
use mathlib.Core.List.{List, [], ◌∷◌}
use Prim.Native.Nat.{ℕ, zero, suc, ◌+◌, ◌*◌, ◌<◌}
use native.Mathlib.Omega.{arith}
use lib.ListN.{length, get_or, set, length-set}
use lib.Seq.{get_or-set_same, get_or-set_other}
use Rattle.types.specs.View.{stage_of}
use Rattle.state.specs.Layout as L
use Rattle.state.specs.Layout.{Sized}
use Rattle.state.specs.View.{flag, entry_of, entry_at}
use Rattle.state.specs.Stores.{Kept, stores, columns, entry_words, put_longs, put_words}
use Rattle.state.specs.declared.Entry.{Entry}

-- ---- columns

columns_other : (l : List ℕ) (a k : ℕ) (xs : List ℕ) (i : ℕ) → ((j : ℕ) → j < length xs → i ≡ a + j * 64 + k → ⊥) → get_or (stores l (columns a k xs)) i 0 ≡ get_or l i 0
columns_other l a k [] i o = refl
columns_other l a k (x ∷ xs) i o =
    columns_other (set l (a + k) x) (a + 64) k xs i (λ j h e. o (suc j) (omega arith) (omega arith)) ∙ get_or-set_other l (a + k) i x 0 (λ e. o 0 (omega arith) (omega arith))

columns_here : (l : List ℕ) (a k : ℕ) (xs : List ℕ) (j : ℕ) → j < length xs → a + j * 64 + k < length l → get_or (stores l (columns a k xs)) (a + j * 64 + k) 0 ≡ get_or xs j 0
columns_here l a k [] j h s = absurd (omega arith)
columns_here l a k (x ∷ xs) zero h s =
    let at : a + 0 * 64 + k ≡ a + k = omega arith in
    rw at (columns_other (set l (a + k) x) (a + 64) k xs (a + k) (λ i p e. omega arith) ∙ get_or-set_same l (a + k) x 0 (omega arith))
columns_here l a k (x ∷ xs) (suc j) h s =
    let at : a + suc j * 64 + k ≡ a + 64 + j * 64 + k = omega arith in
    rw at (columns_here (set l (a + k) x) (a + 64) k xs j (omega arith) (simp length-set (omega arith)))

-- ---- an entry

module _ (longs words : List ℕ) (k : ℕ) (e : Entry) where
  pub put-here : Sized longs words → k < 64 → entry_at (put_longs longs k e) (put_words words k e) k ≡ entry_of e
  put-here z h =
      let here : (j : ℕ) → j < 7 → get_or (put_words words k e) (0 + j * 64 + k) 0 ≡ get_or (entry_words e) j 0 = λ j p. columns_here words L.ids k (entry_words e) j p (omega (arith, z.1)) in
      λ i. record {
        id = here 0 (omega arith) i;
        participant = here 1 (omega arith) i;
        buy = flag (here 4 (omega arith) i);
        customer = flag (here 5 (omega arith) i);
        price = here 2 (omega arith) i;
        units = here 3 (omega arith) i;
        arrival = columns_here longs L.arrivals k (e.arrival ∷ []) 0 (omega arith) (omega (arith, z.0)) i;
        stage = stage_of (here 6 (omega arith) i);
      }

  pub put-there : k < 64 → (i : ℕ) → i < 64 → (i ≡ k → ⊥) → entry_at (put_longs longs k e) (put_words words k e) i ≡ entry_at longs words i
  put-there h i p n =
      let there : (j : ℕ) → j < 7 → get_or (put_words words k e) (j * 64 + i) 0 ≡ get_or words (j * 64 + i) 0 = λ j q. columns_other words L.ids k (entry_words e) (j * 64 + i) (λ m r s. n (omega arith)) in
      λ x. record {
        id = there 0 (omega arith) x;
        participant = there 1 (omega arith) x;
        buy = flag (there 4 (omega arith) x);
        customer = flag (there 5 (omega arith) x);
        price = there 2 (omega arith) x;
        units = there 3 (omega arith) x;
        arrival = columns_other longs L.arrivals k (e.arrival ∷ []) (L.arrivals + i) (λ m r s. n (omega arith)) x;
        stage = stage_of (there 6 (omega arith) x);
      }

  -- outside the columns of the book
  pub put-longs-kept : k < 64 → Kept L.arrivals (L.arrivals + 64) longs (put_longs longs k e)
  put-longs-kept h = record { below = λ i p. absurd (omega arith); above = λ i p. columns_other longs L.arrivals k (e.arrival ∷ []) i (λ j q s. omega arith) }

  pub put-words-kept : k < 64 → Kept L.ids L.count words (put_words words k e)
  put-words-kept h = record { below = λ i p. absurd (omega arith); above = λ i p. columns_other words L.ids k (entry_words e) i (λ j q s. omega arith) }
