-- The entry under an id has other units: in the table of the entries, and in the state.
use mathlib.Core.Path.{◌≡◌, refl, ap, sym}
use mathlib.Core.Bool.{Bool, true, false}
use mathlib.Core.List.{List, [], ◌∷◌}
use Prim.Native.Nat.{ℕ, zero, suc, ◌+◌, ◌-◌, ◌≤◌, ◌<◌}
use native.Mathlib.Decide.{ℕ_discrete}
use native.Mathlib.Omega.{arith}
use lib.Dec.{eqb}
use lib.ListN.{get_or, set}
use lib.Seq.{get_or-set_same, get_or-set_other}
use Rattle.rules.specs.Basics.{pick}
use Rattle.rules.specs.Book.{Entry, nobody, found, find, with_units, reduced}
use Rattle.rules.specs.State.{with_book}
use Rattle.types.specs.View.{upto, stage_of}
use Rattle.state.specs.Layout as L
use Rattle.state.specs.Layout.{WordsSized}
use Rattle.state.specs.View.{entry_at, open_count, entries_of, state_of}
use Rattle.state.proofs.TableLaws.{from-same}
use Rattle.state.proofs.StoreLaws.{kept_all, kept_set}
use Rattle.book.specs.Questions.{FirstUnder}
use Rattle.book.proofs.BookLaws.{becomes, entry_turned}

-- the table h is f, but that the first under the id, at place k, has u units
module _ (f h : ℕ → Entry) (id u k : ℕ) (before : (i : ℕ) → i < k → eqb (f i).id id ≡ false) where
  upto-reduced : (j n : ℕ) → j ≤ k → (k < j + n → (eqb (f k).id id ≡ true) × (h k ≡ with_units u (f k))) → ((i : ℕ) → i < j + n → (i ≡ k → ⊥) → h i ≡ f i) → upto h j n ≡ reduced id u (upto f j n)
  unfolding upto
  upto-reduced j zero p here there = refl
  upto-reduced j (suc n) p here there =
      elim (ℕ_discrete j k) [
        | yes e ↦
            let q = here (omega arith) in
            let z : k + 1 + n - (k + 1) ≡ n = omega arith in
            let behind : upto h (k + 1) n ≡ upto f (k + 1) n = rw z at (from-same h f (k + 1) (k + 1 + n) (λ i a b. there i (omega arith) (λ (y : i ≡ k). omega arith))) in
            rw (e, q.0, q.1, behind)
        | no x ↦ rw (before j (omega arith), there j (omega arith) x, upto-reduced (j + 1) n (omega arith) (λ q. here (omega arith)) (λ i q. there i (omega arith)))
      ]

module _ (longs words : List ℕ) (id u k : ℕ) (first : FirstUnder id words k) where
  -- its units stored
  pub one-reduced : WordsSized words → k < open_count words → state_of longs (set words (L.units + k) u) ≡ with_book (state_of longs words) (reduced id u (entries_of longs words))
  one-reduced s h =
      let after = set words (L.units + k) u in
      let other : (j : ℕ) → (j ≡ L.units + k → ⊥) → get_or after j 0 ≡ get_or words j 0 = λ j x. get_or-set_other words (L.units + k) j u 0 x in
      let entry : (i n : ℕ) → i < 64 → get_or after (L.units + i) 0 ≡ n → entry_at longs after i ≡ with_units n (entry_at longs words i) = λ i n q e.
      entry_turned longs words after i n (entry_at longs words i).stage q (λ j r. other j (λ (y : j ≡ L.units + k). omega arith)) (λ j r v. other j (λ (y : j ≡ L.units + k). omega arith)) e
      (ap stage_of (other (L.stages + i) (λ (y : L.stages + i ≡ L.units + k). omega arith))) in
      becomes longs words longs after (reduced id u (entries_of longs words)) (kept_all L.arrivals L.next longs)
      (kept_set L.ids L.bids words words (L.units + k) u (omega arith) (omega arith) (kept_all L.ids L.bids words))
      (rw (other L.count (λ (y : L.count ≡ L.units + k). omega arith)) (upto-reduced (entry_at longs words) (entry_at longs after) id u k first.before 0 (open_count words - 0) (omega arith)
      (λ q. (first.here h, entry k u (omega arith) (get_or-set_same words (L.units + k) u 0 (omega arith))))
      (λ i q x. entry i (get_or words (L.units + i) 0) (omega arith) (other (L.units + i) (λ (y : L.units + i ≡ L.units + k). x (omega arith))))))

-- nobody is under the id, so that no entry changes
reduced_nobody : (i u : ℕ) (es : List Entry) → find i es ≡ nobody → reduced i u es ≡ es
unfolding find
reduced_nobody i u [] h = refl
reduced_nobody i u (e ∷ es) h = by (eqb e.id i) h (reduced_nobody i u es)
  where
    by : (b : Bool) → pick b (found e) (find i es) ≡ nobody → (find i es ≡ nobody → reduced i u es ≡ es) → pick b (with_units u e ∷ es) (e ∷ reduced i u es) ≡ e ∷ es
    by true q r = cc
    by false q r = ap (λ (t : List Entry). e ∷ t) (r q)

pub none-reduced : (longs words : List ℕ) (id u : ℕ) → find id (entries_of longs words) ≡ nobody → state_of longs words ≡ with_book (state_of longs words) (reduced id u (entries_of longs words))
none-reduced longs words id u h = ap (with_book (state_of longs words)) (sym (reduced_nobody id u (entries_of longs words) h))
