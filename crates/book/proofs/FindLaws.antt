-- What the library finds in a column of the book, and what the rules find in the entries.
use mathlib.Core.Path.{◌≡◌, refl, ap, sym, ◌∙◌}
use mathlib.Core.Bool.{Bool, true, false}
use mathlib.Core.List.{List, [], ◌∷◌}
use Prim.Native.Nat.{ℕ, zero, suc, ◌+◌, ◌-◌, ◌≤◌, ◌<◌}
use native.Mathlib.Omega.{arith}
use lib.Dec.{eqb}
use lib.ListN.{length, take, drop, get_or, length-drop}
use lib.Seq.{get_or-drop}
use Rattle.std.specs.Prelude.{Option, Some, cond}
use Rattle.std.specs.List.{position, position_from, list_any}
use Rattle.std.proofs.lemmas.List.{get_or-take, length-take-le}
use Rattle.std.proofs.lemmas.List.Quantifiers.{position-Some}
use Rattle.std.proofs.lemmas.Iterator.Adapters.{position_from-zero}
use Rattle.rules.specs.Basics.{pick}
use Rattle.rules.specs.Book.{Entry, found, find, any}
use Rattle.types.specs.View.{upto, from}
use Rattle.state.specs.Layout as L
use Rattle.state.specs.Layout.{WordsSized}
use Rattle.state.specs.View.{entry_at, open_count, entries_of}
use Rattle.book.specs.Questions.{FirstUnder, found_at}
use Rattle.book.proofs.ScanLaws.{neither}

-- ---- the entry under an id

module _ (f : ℕ → Entry) (id : ℕ) where
  find-upto : (l : List ℕ) (k n : ℕ) → n ≤ length l → ((i : ℕ) → i < n → (f (k + i)).id ≡ get_or l i 0) → find id (upto f k n) ≡ found_at f (position_from (λ x. eqb x id) k (take n l))
  unfolding upto find
  find-upto l k zero h e = refl
  find-upto [] k (suc n) h e = absurd (omega arith)
  find-upto (x ∷ l) k (suc n) h e =
      let z : k + 0 ≡ k = omega arith in
      let here : (f k).id ≡ x = rw z at (e 0 (omega arith)) in
      let behind : find id (upto f (k + 1) n) ≡ found_at f (position_from (λ y. eqb y id) (k + 1) (take n l)) = find-upto l (k + 1) n (omega arith) (λ i p. let y : k + suc i ≡ k + 1 + i = omega arith in rw y at (e (suc i) (omega arith))) in
      rw (← here, behind) (by (eqb (f k).id id) (position_from (λ y. eqb y id) (k + 1) (take n l)))
    where
      by : (b : Bool) (r : Option ℕ) → pick b (found (f k)) (found_at f r) ≡ found_at f (cond b (Some k) r)
      by true r = refl
      by false r = refl

pub find-position : (longs words : List ℕ) (id : ℕ) → WordsSized words → find id (entries_of longs words) ≡ found_at (entry_at longs words) (position (λ x. eqb x id) (take (open_count words) words))
find-position longs words id s =
    let n = open_count words in
    let f = entry_at longs words in
    let z : n - 0 ≡ n = omega arith in
    find-upto f id words 0 (n - 0) (omega arith) (λ i h. let y : L.ids + (0 + i) ≡ i = omega arith in rw y)
    ∙ ap (λ (m : ℕ). found_at f (position_from (λ x. eqb x id) 0 (take m words))) z
    ∙ ap (found_at f) (sym (position_from-zero (λ x. eqb x id) (take n words)))

pub first-found : (words : List ℕ) (id k : ℕ) → WordsSized words → position (λ x. eqb x id) (take (open_count words) words) ≡ Some k → (k < open_count words) × FirstUnder id words k
first-found words id k s e =
    let n = open_count words in
    let z : length (take n words) ≡ n = length-take-le n words (omega arith) in
    let p = position-Some (λ x. eqb x id) (take n words) k 0 e in
    let h : k < n = omega (arith, p.0) in (
      h,
      record {
        before = λ i q. let y : L.ids + i ≡ i = omega arith in rw y (rw (get_or-take n words i 0 (omega arith)) at (p.2 i q));
        here = λ _. let y : L.ids + k ≡ k = omega arith in rw y (rw (get_or-take n words k 0 h) at p.1);
      },
    )

-- ---- whether a number stands in a column

module _ (t : ℕ → Bool) where
  module _ (p : Entry → Bool) (f : ℕ → Entry) where
    any-upto : (l : List ℕ) (k n : ℕ) → n ≤ length l → ((i : ℕ) → i < n → t (get_or l i 0) ≡ p (f (k + i))) → list_any t (take n l) ≡ any p (upto f k n)
    unfolding upto
    any-upto l k zero h e = refl
    any-upto [] k (suc n) h e = absurd (omega arith)
    any-upto (x ∷ l) k (suc n) h e =
        let z : k + 0 ≡ k = omega arith in
        let here : t x ≡ p (f k) = rw z at (e 0 (omega arith)) in
        rw (here, any-upto l (k + 1) n (omega arith) (λ i q. let y : k + suc i ≡ k + 1 + i = omega arith in rw y at (e (suc i) (omega arith))))

    -- the first n of the column that begins at a
    pub any-column : (words : List ℕ) (a n m : ℕ) → a + n ≤ length words → m ≡ n → ((i : ℕ) → i < n → t (get_or words (a + i) 0) ≡ p (f i)) → list_any t (take m (drop a words)) ≡ any p (from f 0 n)
    any-column words a n m h z e =
        let y : m ≡ n - 0 = omega arith in
        rw y (any-upto (drop a words) 0 (n - 0) (omega (arith, length-drop a words)) (λ i q. let x : 0 + i ≡ i = omega arith in rw (get_or-drop a words i 0, x) (e i (omega arith))))

  none-in : (l : List ℕ) (n : ℕ) → n ≤ length l → list_any t (take n l) ≡ false → (i : ℕ) → i < n → t (get_or l i 0) ≡ false
  none-in l zero h e i p = absurd (omega arith)
  none-in [] (suc n) h e i p = absurd (omega arith)
  none-in (x ∷ l) (suc n) h e zero p = (neither (t x) _ e).0
  none-in (x ∷ l) (suc n) h e (suc i) p = none-in l n (omega arith) (neither (t x) _ e).1 i (omega arith)

  -- none from b to before b + n
  pub none-between : (words : List ℕ) (b n : ℕ) → b + n ≤ length words → list_any t (take n (drop b words)) ≡ false → (i : ℕ) → b ≤ i → i < b + n → t (get_or words i 0) ≡ false
  none-between words b n h e i p q =
      let z : b + (i - b) ≡ i = omega arith in
      rw (get_or-drop b words (i - b) 0, z) at (none-in (drop b words) n (omega (arith, length-drop b words)) e (i - b) (omega arith))
