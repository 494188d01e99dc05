-- A book settled after a turn: each entry changed in place, then those with units left.
use mathlib.Core.Path.{◌≡◌, refl, ap, sym, ◌∙◌}
use mathlib.Core.Bool.{Bool, true, false, not}
use mathlib.Core.List.{List, [], ◌∷◌}
use mathlib.Core.Logic.{◌⊎◌, inl, inr}
use Prim.{Dec, yes, no}
use Prim.Native.Nat.{ℕ, zero, suc, ◌+◌, ◌-◌, ◌≤◌, ◌<◌, min}
use native.Mathlib.Decide.{dec_le, ℕ_discrete}
use native.Mathlib.Numerals.{add-one}
use native.Mathlib.Omega.{arith}
use borrow.Author.Tests.{lt-ltb, ne_eqb}
use lib.Dec.{eqb, ltb}
use lib.ListN.{length, drop, get_or, drop_of_length-le, get_or-eq_default}
use lib.Seq.{drop-cons, get_or-drop}
use Rattle.rules.specs.Basics.{pick}
use Rattle.rules.specs.Book.{Stage, Entry, only, with_stage, less_units}
use Rattle.rules.specs.State.{with_book}
use Rattle.rules.specs.Execution.{after_turn, keep, settled}
use Rattle.types.specs.View.{from, stage_of}
use Rattle.types.proofs.TableLaws.{from_cons, from_end}
use Rattle.state.specs.Layout as L
use Rattle.state.specs.View.{entry_at, open_count, entries_of, state_of}
use Rattle.state.specs.Stores.{Kept}
use Rattle.state.proofs.StoreLaws.{kept_then}
use Rattle.book.proofs.ScanLaws.{only_step, only_end}
use Rattle.book.specs.Kept.{KeptBy}
use Rattle.book.proofs.BookLaws.{becomes, turned, entry_turned}

-- ---- the rules' settled, place by place

-- the head of what is left of a list of any length, past whose end stands 0
abbrev Head : List ℕ → ℕ → Type 0
Head l k = (drop k l ≡ get_or l k 0 ∷ drop (k + 1) l) ⊎ ((drop k l ≡ []) × (get_or l k 0 ≡ 0) × (drop (k + 1) l ≡ []))

head_drop : (l : List ℕ) (k : ℕ) → Head l k
head_drop l k = by (dec_le (k + 1) (length l))
  where
    by : Dec (k + 1 ≤ length l) → Head l k
    by (yes h) = inl (rw add-one (drop-cons l k 0 (omega arith)))
    by (no h) = inr (drop_of_length-le l {i = k} (omega arith), get_or-eq_default l 0 {n = k} (omega arith), drop_of_length-le l {i = k + 1} (omega arith))

-- with units left
abbrev has_units : Entry → Bool
has_units e = ltb 0 e.units

units_left : (n : ℕ) → not (eqb n 0) ≡ ltb 0 n
units_left n =
    elim (ℕ_discrete n 0) [
      | yes e ↦ rw e
      | no e ↦ rw (ne_eqb n 0 e, lt-ltb 0 n (omega arith))
    ]

module _ (i x : ℕ) (t : Stage) (f : ℕ → Entry) (gs : List ℕ) where
  settled-step : (k n : ℕ) → k < n → keep (after_turn i x t (f k) (get_or gs k 0)) (settled i x t (from f (k + 1) n) (drop (k + 1) gs)) ≡ settled i x t (from f k n) (drop k gs)
  unfolding settled
  settled-step k n h = by (head_drop gs k)
    where
      by : Head gs k → keep (after_turn i x t (f k) (get_or gs k 0)) (settled i x t (from f (k + 1) n) (drop (k + 1) gs)) ≡ settled i x t (from f k n) (drop k gs)
      by (inl q) = rw (from_cons f k n h, q)
      by (inr q) = rw (from_cons f k n h, q.0, q.1, q.2)

  module _ (g : ℕ → Entry) (n : ℕ) (s : (k : ℕ) → k < n → g k ≡ after_turn i x t (f k) (get_or gs k 0)) where
    settled-from : (d k : ℕ) → n ≡ k + d → only has_units (from g k n) ≡ settled i x t (from f k n) (drop k gs)
    unfolding settled
    settled-from zero k q = rw (only_end g k n has_units (omega arith), from_end f k n (omega arith))
    settled-from (suc d) k q =
        sym (only_step g k n has_units (omega arith))
        ∙ ap (λ (e : Entry). keep e (only has_units (from g (k + 1) n))) (s k (omega arith))
        ∙ ap (λ (es : List Entry). keep (after_turn i x t (f k) (get_or gs k 0)) es) (settled-from d (k + 1) (omega arith))
        ∙ settled-step k n (omega arith)

-- ---- in the words

-- an entry after a turn, by its units and its stage
after-turn : (e : Entry) (i n t g s : ℕ) → e.stage ≡ stage_of s → turned e (e.units - pick (eqb e.id i) n g) (stage_of (pick (eqb e.id i) t s)) ≡ after_turn i n (stage_of t) e g
after-turn e i n t g s q = by (eqb e.id i)
  where
    by : (own : Bool) → turned e (e.units - pick own n g) (stage_of (pick own t s)) ≡ pick own (with_stage (stage_of t) (less_units n e)) (less_units g e)
    by true = refl
    by false = rw (← q)

module _ (longs l m n : List ℕ) (gave : List ℕ) (id took stage : ℕ) (p : Kept L.units L.buys l m) (q : Kept L.stages L.count m n)
    (u : (i : ℕ) → i < open_count l → get_or m (L.units + i) 0 ≡ get_or l (L.units + i) 0 - pick (eqb (get_or l (L.ids + i) 0) id) took (get_or gave (i + 2) 0))
    (t : (i : ℕ) → i < open_count m → get_or n (L.stages + i) 0 ≡ pick (eqb (get_or m (L.ids + i) 0) id) stage (get_or m (L.stages + i) 0)) where
  same_count : open_count n ≡ open_count l
  same_count = ap (λ (x : ℕ). min x 64) (q.above L.count (omega arith) ∙ p.above L.count (omega arith))

  -- both passes, at a place: what stands at i + 2 is what the entry at place i gave
  turned-at : (i : ℕ) → i < open_count l → entry_at longs n i ≡ after_turn id took (stage_of stage) (entry_at longs l i) (get_or (drop 2 gave) i 0)
  turned-at i h =
      let c : open_count m ≡ open_count l = ap (λ (x : ℕ). min x 64) (p.above L.count (omega arith)) in
      let z : 2 + i ≡ i + 2 = omega arith in
      let g : get_or (drop 2 gave) i 0 ≡ get_or gave (i + 2) 0 = rw z at (get_or-drop 2 gave i 0) in
      let s : get_or n (L.stages + i) 0 ≡ pick (eqb (get_or l (L.ids + i) 0) id) stage (get_or l (L.stages + i) 0) = rw (← p.below (L.ids + i) (omega arith), ← p.above (L.stages + i) (omega arith)) (t i (omega arith)) in
      rw g (entry_turned longs l n i _ _ (omega arith) (λ j r. q.below j (omega arith) ∙ p.below j r) (λ j r v. q.below j v ∙ p.above j r) (q.below (L.units + i) (omega arith) ∙ u i h) (ap stage_of s)
      ∙ after-turn (entry_at longs l i) id took stage (get_or gave (i + 2) 0) (get_or l (L.stages + i) 0) refl)

  -- the passes, then the entries with units left
  pub settled-by : (b k : List ℕ) → KeptBy (λ i. not (eqb (get_or n (L.units + i) 0) 0)) longs n b k
      → state_of b k ≡ with_book (state_of longs l) (settled id took (stage_of stage) (entries_of longs l) (drop 2 gave))
  settled-by b k r =
      becomes longs l b k (settled id took (stage_of stage) (entries_of longs l) (drop 2 gave)) r.longs
      (kept_then L.ids L.bids L.ids L.bids L.ids L.bids l n k (omega arith) (omega arith) (omega arith) (omega arith)
      (kept_then L.ids L.bids L.units L.buys L.stages L.count l m n (omega arith) (omega arith) (omega arith) (omega arith) p q) r.words)
      (r.entries has_units (λ i h. units_left (get_or n (L.units + i) 0))
      ∙ ap (λ (x : ℕ). only has_units (from (entry_at longs n) 0 x)) same_count
      ∙ settled-from id took (stage_of stage) (entry_at longs l) (drop 2 gave) (entry_at longs n) (open_count l) turned-at (open_count l) 0 (omega arith))
