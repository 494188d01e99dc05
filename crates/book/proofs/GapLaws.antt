-- One entry leaves: those behind it move by one place, some at a time.
use mathlib.Core.Path.{◌≡◌, refl, ap, sym, ◌∙◌}
use mathlib.Core.Bool.{Bool, true, false, not}
use mathlib.Core.List.{List, ◌++◌}
use Prim.Native.Nat.{ℕ, zero, suc, ◌+◌, ◌-◌, ◌*◌, ◌≤◌, ◌<◌}
use native.Mathlib.Decide.{ℕ_discrete, dec_lt}
use native.Mathlib.Omega.{arith}
use borrow.Author.Count.{below_more}
use borrow.Author.Rules.{rules}
use borrow.Author.Tests.{eq-eqb, ne_eqb}
use borrow.Rule.Slice.PartMut.{put_mid, mid_of}
use lib.Dec.{eqb}
use lib.ListN.{length, get_or, set}
use Rattle.std.specs.List.{CopiedTo, SameFrom}
use Rattle.std.proofs.lemmas.List.{places}
use Rattle.std.proofs.lemmas.Slice.{overwrites}
use Rattle.rules.specs.Book.{Entry, nobody, find, only, without}
use Rattle.rules.specs.State.{with_book}
use Rattle.types.specs.View.{upto, from, stage_of}
use Rattle.state.specs.Layout as L
use Rattle.state.specs.Layout.{Sized}
use Rattle.state.specs.View.{flag, entry_at, open_count, entries_of, state_of}
use Rattle.state.proofs.TableLaws.{from-same, from-join}
use Rattle.state.proofs.StoreLaws.{kept_all, kept_set, kept_then}
use Rattle.book.proofs.ScanLaws.{only_step, without_nobody}
use Rattle.book.proofs.BookLaws.{counted, only_front}
use Rattle.book.specs.Kept.{KeptBy, Columns, Closing}
use Rattle.book.specs.Questions.{FirstUnder}

-- ---- all of an entry

-- place i of the longs b and the words m has what place j of a and l has
entry_same : (a l b m : List ℕ) (i j : ℕ) → get_or b i 0 ≡ get_or a j 0 → ((q : ℕ) → q < 7 → get_or m (q * 64 + i) 0 ≡ get_or l (q * 64 + j) 0) → entry_at b m i ≡ entry_at a l j
entry_same a l b m i j h there =
    let y : 0 + i ≡ i = omega arith in
    let z : 0 + j ≡ j = omega arith in
    let arrived : get_or b (0 + i) 0 ≡ get_or a (0 + j) 0 = rw (y, z) h in
    λ t. record {
      id = there 0 (omega arith) t;
      participant = there 1 (omega arith) t;
      buy = flag (there 4 (omega arith) t);
      customer = flag (there 5 (omega arith) t);
      price = there 2 (omega arith) t;
      units = there 3 (omega arith) t;
      arrival = arrived t;
      stage = stage_of (there 6 (omega arith) t);
    }

-- ---- the gap goes on

-- d numbers behind place a moved by one place
pub record Shifted (a d : ℕ) (old new : List ℕ) : Type 0 where
  pub sized : length new ≡ length old
  pub below : (i : ℕ) → i < a → get_or new i 0 ≡ get_or old i 0
  pub moved : (i : ℕ) → a ≤ i → i < a + d → get_or new i 0 ≡ get_or old (i + 1) 0
  pub above : (i : ℕ) → a + d ≤ i → get_or new i 0 ≡ get_or old i 0

-- in a part of k numbers from place a on, and so in the whole
pub part-shifted : (a k d : ℕ) (old part : List ℕ) → k ≡ d + 1 → a + k ≤ length old → length part ≡ k → CopiedTo (mid_of a k old) part 1 0 (length (mid_of a k old) - 1) → SameFrom (mid_of a k old) part (0 + (length (mid_of a k old) - 1)) → Shifted a d old (put_mid a k old part)
part-shifted a k d old part h fits sized copied same =
    let size : length (mid_of a k old) ≡ k = search (rules, places) in
    let inner : (j : ℕ) → j < k → get_or (mid_of a k old) j 0 ≡ get_or old (a + j) 0 = λ j p. search (rules, places) in
    let outer : (j : ℕ) → j < k → get_or (put_mid a k old part) (a + j) 0 ≡ get_or part j 0 = λ j p. search (rules, places) in
    record {
      sized = search (rules, overwrites);
      below = λ i p. search (rules, places);
      moved = λ i p q.
          let z : a + (i - a) ≡ i = omega arith in
          let y : a + (1 + (i - a - 0)) ≡ i + 1 = omega arith in
          (rw z at (outer (i - a) (omega arith))) ∙ copied (i - a) 0 (omega arith) (omega (arith, size)) ∙ (rw y at (inner (1 + (i - a - 0)) (omega arith)));
      above = λ i p.
          elim (dec_lt i (a + k)) [
            | yes q ↦ let z : a + (i - a) ≡ i = omega arith in (rw z at (outer (i - a) (omega arith))) ∙ same (i - a) 0 (omega (arith, size)) ∙ (rw z at (inner (i - a) (omega arith)))
            | no q ↦ search (rules, places)
          ];
    }

-- in one column more
pub columns-one : (w d n : ℕ) (old new next : List ℕ) → w + d < 64 → Columns w (w + d + 1) n old new → Shifted (n * 64 + w) d new next → Columns w (w + d + 1) (n + 1) old next
columns-one w d n old new next h c s =
    record {
      sized = s.sized ∙ c.sized;
      before = λ q i p r.
          below_more (λ q. get_or next (q * 64 + i) 0 ≡ get_or old (q * 64 + i) 0) n (λ q p. s.below (q * 64 + i) (omega arith) ∙ c.before q i p r)
          (s.below (n * 64 + i) (omega arith) ∙ c.ahead (n * 64 + i) (omega arith)) q p;
      moved = λ q i p r t.
          below_more (λ q. get_or next (q * 64 + i) 0 ≡ get_or old (q * 64 + (i + 1)) 0) n (λ q p. s.below (q * 64 + i) (omega arith) ∙ c.moved q i p r t)
          (let z : n * 64 + i + 1 ≡ n * 64 + (i + 1) = omega arith in
          (rw z at (s.moved (n * 64 + i) (omega arith) (omega arith))) ∙ c.ahead (n * 64 + (i + 1)) (omega arith)) q p;
      behind = λ q i p r t.
          below_more (λ q. get_or next (q * 64 + i) 0 ≡ get_or old (q * 64 + i) 0) n (λ q p. s.below (q * 64 + i) (omega arith) ∙ c.behind q i p r t)
          (s.above (n * 64 + i) (omega arith) ∙ c.ahead (n * 64 + i) (omega arith)) q p;
      ahead = λ i p. s.above i (omega arith) ∙ c.ahead i (omega arith);
    }

-- in the longs and in all columns
pub closing-shift : (w d x : ℕ) (a l b m : List ℕ) → Sized a l → w + d < 64 → x ≡ w → Shifted x d a b → Columns w (w + d + 1) 7 l m → Closing w (w + d) a l b m
closing-shift w d x a l b m z h e s c =
    record {
      sized = (s.sized ∙ z.0, c.sized ∙ z.1);
      longs = record { below = λ i p. absurd (omega arith); above = λ i p. s.above i (omega arith) };
      words = record { below = λ i p. absurd (omega arith); above = λ i p. c.ahead i (omega arith) };
      before = λ i p. entry_same a l b m i i (s.below i (omega arith)) (λ q r. c.before q i r p);
      moved = λ i p q. entry_same a l b m i (i + 1) (s.moved i (omega arith) (omega arith)) (λ t r. c.moved t i r p (omega arith));
      ahead = λ i p q. entry_same a l b m i i (s.above i (omega arith)) (λ t r. c.behind t i r (omega arith) q);
    }

pub closing-none : (k : ℕ) (a l : List ℕ) → Sized a l → Closing k k a l a l
closing-none k a l s =
    record { sized = s; longs = kept_all L.arrivals L.next a; words = kept_all L.ids L.count l; before = λ i h. refl; moved = λ i h p. absurd (omega arith); ahead = λ i h p. refl }

-- the gap comes to v, and from there to w
pub closing_then : (k v w : ℕ) (a l b m d n : List ℕ) → k ≤ v → v ≤ w → w < 64 → Closing k v a l b m → Closing v w b m d n → Closing k w a l d n
closing_then k v w a l b m d n p q z f s =
    record {
      sized = s.sized;
      longs = kept_then L.arrivals L.next L.arrivals L.next L.arrivals L.next a b d (omega arith) (omega arith) (omega arith) (omega arith) f.longs s.longs;
      words = kept_then L.ids L.count L.ids L.count L.ids L.count l m n (omega arith) (omega arith) (omega arith) (omega arith) f.words s.words;
      before = λ i h. s.before i (omega arith) ∙ f.before i h;
      moved = λ i h r.
          elim (dec_lt i v) [
            | yes y ↦ s.before i y ∙ f.moved i h y
            | no y ↦ s.moved i (omega arith) r ∙ f.ahead (i + 1) (omega arith) (omega arith)
          ];
      ahead = λ i h r. s.ahead i h r ∙ f.ahead i (omega arith) r;
    }

-- ---- what is left of a table without one

module _ {A : Type 0} (f g : ℕ → A) where
  upto_next : (k n : ℕ) → ((i : ℕ) → k ≤ i → i < k + n → g i ≡ f (i + 1)) → upto g k n ≡ upto f (k + 1) n
  unfolding upto
  upto_next k zero h = refl
  upto_next k (suc n) h = rw (h k (omega arith) (omega arith), upto_next (k + 1) n (λ i p q. h i (omega arith) (omega arith)))

  from_next : (k n : ℕ) → ((i : ℕ) → k ≤ i → i < n → g i ≡ f (i + 1)) → from g k n ≡ from f (k + 1) (n + 1)
  from_next k n h =
      let q : n + 1 - (k + 1) ≡ n - k = omega arith in
      rw q (upto_next k (n - k) (λ i p r. h i p (omega arith)))

module _ (f : ℕ → Entry) (p : Entry → Bool) where
  upto_all : (k n : ℕ) → ((i : ℕ) → k ≤ i → i < k + n → p (f i) ≡ true) → only p (upto f k n) ≡ upto f k n
  unfolding upto only
  upto_all k zero h = refl
  upto_all k (suc n) h = rw (h k (omega arith) (omega arith), upto_all (k + 1) n (λ i q r. h i (omega arith) (omega arith)))

  only-all : (k n : ℕ) → ((i : ℕ) → k ≤ i → i < n → p (f i) ≡ true) → only p (from f k n) ≡ from f k n
  only-all k n h = upto_all k (n - k) (λ i q r. h i q (omega arith))

  -- g is f without place k
  without-one : (g : ℕ → Entry) (k w : ℕ) → k ≤ w → ((i : ℕ) → i < k → g i ≡ f i) → ((i : ℕ) → k ≤ i → i < w → g i ≡ f (i + 1)) → ((i : ℕ) → i < w + 1 → not (eqb i k) ≡ p (f i))
      → from g 0 w ≡ only p (from f 0 (w + 1))
  without-one g k w o before moved flags =
      let stays : (i : ℕ) → i < w + 1 → (i ≡ k → ⊥) → p (f i) ≡ true = λ i h n. sym (flags i h) ∙ ap not (ne_eqb i k n) in
      let leaves : p (f k) ≡ false = sym (flags k (omega arith)) ∙ ap not (eq-eqb k k refl) in
      sym (from-join g 0 k w (omega arith) o)
      ∙ rw (from-same g f 0 k (λ i h q. before i q), from_next f g k w moved, ← only-all (k + 1) (w + 1) (λ i h q. stays i q (λ (e : i ≡ k). omega arith)))
      (ap (λ (es : List Entry). from f 0 k ++ es) (rw leaves at (only_step f k (w + 1) p (omega arith)))
      ∙ only_front f p (w + 1) k (omega arith) (λ i h. stays i (omega arith) (λ (e : i ≡ k). omega arith)))

-- nobody leaves
pub all_stay : (flag : ℕ → Bool) (a l : List ℕ) → ((i : ℕ) → i < open_count l → flag i ≡ true) → KeptBy flag a l a l
all_stay flag a l h =
    record { longs = kept_all L.arrivals L.next a; words = kept_all L.ids L.bids l; entries = λ p f. sym (only-all (entry_at a l) p 0 (open_count l) (λ i q r. sym (f i r) ∙ h i r)) }

-- the gap has come to the end, and there is one less
pub closing_end : (k w c : ℕ) (a l b m : List ℕ) → Closing k w a l b m → k ≤ w → w + 1 ≡ open_count l → c ≡ w → KeptBy (λ i. not (eqb i k)) a l b (set m L.count c)
closing_end k w c a l b m g o z e =
    rw e (record {
      longs = g.longs;
      words = kept_set L.ids L.bids l m L.count w (omega arith) (omega arith) (kept_then L.ids L.bids L.ids L.count L.ids L.count l m m (omega arith) (omega arith) (omega arith) (omega arith) g.words (kept_all L.ids L.count m));
      entries = λ p f. counted b m w g.sized.1 (omega arith) ∙ without-one (entry_at a l) p (entry_at b m) k w o g.before g.moved (λ i h. f i (omega arith)) ∙ ap (λ (n : ℕ). only p (from (entry_at a l) 0 n)) z;
    })

-- ---- the only one under an id

pub alone : (id : ℕ) (words : List ℕ) (k : ℕ) → FirstUnder id words k → k < open_count words → ((i : ℕ) → k < i → i < open_count words → eqb (get_or words (L.ids + i) 0) id ≡ false)
    → (i : ℕ) → i < open_count words → not (eqb i k) ≡ not (eqb (get_or words (L.ids + i) 0) id)
alone id words k f h behind i p =
    elim (ℕ_discrete i k) [
      | yes e ↦ rw (e, eq-eqb k k refl, f.here h)
      | no n ↦
          elim (dec_lt i k) [
            | yes q ↦ rw (ne_eqb i k n, f.before i q)
            | no q ↦ rw (ne_eqb i k n, behind i (omega arith) p)
          ]
    ]

-- nobody is under it, and the state stays
pub nobody_leaves : (longs words : List ℕ) (id : ℕ) → find id (entries_of longs words) ≡ nobody → state_of longs words ≡ with_book (state_of longs words) (without id (entries_of longs words))
nobody_leaves longs words id h = ap (with_book (state_of longs words)) (sym (without_nobody id (entries_of longs words) h))
