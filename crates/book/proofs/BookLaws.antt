-- The book of a state changed alone: an entry more, another count, and the entries that stay.
use mathlib.Core.Path.{◌≡◌, refl, ap, sym, ◌∙◌}
use mathlib.Core.Bool.{Bool, true, false}
use mathlib.Core.List.{List, [], ◌∷◌, ◌++◌, append-nil}
use Prim.Native.Nat.{ℕ, zero, suc, ◌+◌, ◌-◌, ◌≤◌, ◌<◌}
use native.Mathlib.Omega.{arith}
use borrow.Author.Tests.{lt-ltb, le-ltb}
use lib.ListN.{get_or, set}
use lib.Seq.{append_snoc, get_or-set_same, get_or-set_other}
use Rattle.rules.specs.Basics.{pick}
use Rattle.rules.specs.Book.{Stage, Entry, only, added}
use Rattle.rules.specs.State.{with_book}
use Rattle.types.specs.View.{upto, from, stage_of}
use Rattle.types.proofs.TableLaws.{from_last, from-length}
use Rattle.state.specs.Layout as L
use Rattle.state.specs.Layout.{WordsSized, Sized}
use Rattle.state.specs.View.{entry_of, entry_at, open_count, entries_of, state_of}
use Rattle.state.specs.Stores.{Kept, columns, entry_words, put_longs, put_words}
use Rattle.state.specs.declared.Entry as S
use Rattle.state.proofs.TableLaws.{from-same}
use Rattle.state.proofs.StoreLaws.{stores-length, kept_all, kept_set, kept_then}
use Rattle.state.proofs.EntryLaws.{put-here, put-there, put-longs-kept, put-words-kept}
use Rattle.state.proofs.StateLaws.{book-alone}
use Rattle.book.proofs.StoreLaws.{push, push-if}
use Rattle.book.proofs.ScanLaws.{only_step, only_end}
use Rattle.book.specs.Kept.{KeptBy}

-- ---- the book alone

-- the state with these entries
pub becomes : (a l b m : List ℕ) (es : List Entry) → Kept L.arrivals L.next a b → Kept L.ids L.bids l m → entries_of b m ≡ es → state_of b m ≡ with_book (state_of a l) es
becomes a l b m es s t e = book-alone a b l m s t ∙ ap (λ (x : List Entry). with_book (state_of a l) x) e

-- an entry with other units and at another stage
abbrev pub turned : Entry → ℕ → Stage → Entry
turned e u t = record { id = e.id; participant = e.participant; buy = e.buy; customer = e.customer; price = e.price; units = u; arrival = e.arrival; stage = t }

-- an entry after a change of the columns of units and stages
pub entry_turned : (longs l m : List ℕ) (i u : ℕ) (t : Stage) → i < 64 → ((j : ℕ) → j < L.units → get_or m j 0 ≡ get_or l j 0) → ((j : ℕ) → L.buys ≤ j → j < L.stages → get_or m j 0 ≡ get_or l j 0)
    → get_or m (L.units + i) 0 ≡ u → stage_of (get_or m (L.stages + i) 0) ≡ t → entry_at longs m i ≡ turned (entry_at longs l i) u t
entry_turned longs l m i u t h below between eu et =
    rw (
      below (L.ids + i) (omega arith),
      below (L.participants + i) (omega arith),
      below (L.prices + i) (omega arith),
      eu,
      between (L.buys + i) (omega arith) (omega arith),
      between (L.customers + i) (omega arith) (omega arith),
      et,
    )

-- another count shows other places of the same columns
pub counted : (longs words : List ℕ) (n : ℕ) → WordsSized words → n ≤ 64 → entries_of longs (set words L.count n) ≡ from (entry_at longs words) 0 n
counted longs words n s h =
    let e : open_count (set words L.count n) ≡ n = omega (arith, get_or-set_same words L.count n 0 (omega arith)) in
    let other : (j : ℕ) → j < L.count → get_or (set words L.count n) j 0 ≡ get_or words j 0 = λ j q. get_or-set_other words L.count j n 0 (λ (z : j ≡ L.count). omega arith) in
    rw e (from-same (entry_at longs (set words L.count n)) (entry_at longs words) 0 n (λ i p q.
    entry_turned longs words (set words L.count n) i (get_or words (L.units + i) 0) (stage_of (get_or words (L.stages + i) 0)) (omega arith) (λ j r. other j (omega arith)) (λ j r v. other j (omega arith))
    (other (L.units + i) (omega arith)) (ap stage_of (other (L.stages + i) (omega arith)))))

-- ---- an entry more

pub put_sized : (longs words : List ℕ) (k : ℕ) (e : S.Entry) → Sized longs words → Sized (put_longs longs k e) (put_words words k e)
put_sized longs words k e s = (stores-length longs (columns L.arrivals k (e.arrival ∷ [])) ∙ s.0, stores-length words (columns L.ids k (entry_words e)) ∙ s.1)

module _ (longs words : List ℕ) (e : S.Entry) where
  pub appended : (w : ℕ) → Sized longs words → w ≡ open_count words → w < 64 → state_of (put_longs longs w e) (set (put_words words w e) L.count (w + 1)) ≡ with_book (state_of longs words) (added (entries_of longs words) (entry_of e))
  unfolding added
  appended w s z h =
      let new = put_longs longs w e in
      let put = put_words words w e in
      becomes longs words new (set put L.count (w + 1)) (added (entries_of longs words) (entry_of e))
      (put-longs-kept longs words w e h)
      (kept_set L.ids L.bids words put L.count (w + 1) (omega arith) (omega arith) (kept_then L.ids L.bids L.ids L.bids L.ids L.count words words put (omega arith) (omega arith) (omega arith) (omega arith) (kept_all L.ids L.bids words) (put-words-kept longs words w e h)))
      (counted new put (w + 1) (put_sized longs words w e s).1 (omega arith)
      ∙ sym (append-nil (from (entry_at new put) 0 (w + 1)))
      ∙ push (entry_at longs words) (entry_at new put) w (entry_of e) (put-here longs words w e s h) (λ i q. put-there longs words w e h i (omega arith) (λ (y : i ≡ w). omega arith)) 0 [] (omega arith)
      ∙ rw (← z, from-length (entry_at longs words) 0 w, lt-ltb (w - 0) 64 (omega arith)))

  pub appended-full : 64 ≤ open_count words → state_of longs words ≡ with_book (state_of longs words) (added (entries_of longs words) (entry_of e))
  unfolding added
  appended-full h = rw (from-length (entry_at longs words) 0 (open_count words), le-ltb (open_count words - 0) 64 (omega arith))

-- ---- who stays

-- those before the first that leaves are kept as they stand
pub only_front : (f : ℕ → Entry) (p : Entry → Bool) (n w : ℕ) → w ≤ n → ((i : ℕ) → i < w → p (f i) ≡ true) → from f 0 w ++ only p (from f w n) ≡ only p (from f 0 n)
unfolding upto
only_front f p n zero h a = refl
only_front f p n (suc w) h a =
    let q : suc w ≡ w + 1 = omega arith in
    rw (q, from_last f w, append_snoc, rw (a w (omega arith)) at (only_step f w n p (omega arith))) (only_front f p n w (omega arith) (λ i j. a i (omega arith)))

-- on the way: the first w of b and m are those kept of the first k of a and l, and from k on nothing has changed
pub record Going (flags : List Bool) (a l b m : List ℕ) (n w k : ℕ) : Type 0 where
  pub sized : Sized b m
  pub longs : Kept L.arrivals L.next a b
  pub words : Kept L.ids L.bids l m
  pub ahead : (i : ℕ) → k ≤ i → i < 64 → entry_at b m i ≡ entry_at a l i
  pub made : (p : Entry → Bool) → ((i : ℕ) → i < n → get_or flags i false ≡ p (entry_at a l i)) → from (entry_at b m) 0 w ++ only p (from (entry_at a l) k n) ≡ only p (from (entry_at a l) 0 n)

module _ (flags : List Bool) (a l : List ℕ) (n : ℕ) (z : n ≤ 64) where
  pub going_start : (w : ℕ) → Sized a l → w ≤ n → ((i : ℕ) → i < w → get_or flags i false ≡ true) → Going flags a l a l n w w
  going_start w s h f =
      record {
        sized = s;
        longs = kept_all L.arrivals L.next a;
        words = kept_all L.ids L.bids l;
        ahead = λ i p q. refl;
        made = λ p g. only_front (entry_at a l) p n w h (λ i q. sym (g i (omega arith)) ∙ f i q);
      }

  pub going_step : (b m : List ℕ) (w k u : ℕ) (e : S.Entry) → Going flags a l b m n w k → k < n → w ≤ k → entry_of e ≡ entry_at b m k → u ≡ pick (get_or flags k false) 1 0
      → Going flags a l (put_longs b w e) (put_words m w e) n (w + u) (k + 1)
  going_step b m w k u e g h o q v =
      record {
        sized = put_sized b m w e g.sized;
        longs = kept_then L.arrivals L.next L.arrivals L.next L.arrivals L.next a b (put_longs b w e) (omega arith) (omega arith) (omega arith) (omega arith) g.longs (put-longs-kept b m w e (omega arith));
        words = kept_then L.ids L.bids L.ids L.bids L.ids L.count l m (put_words m w e) (omega arith) (omega arith) (omega arith) (omega arith) g.words (put-words-kept b m w e (omega arith));
        ahead = λ i r t. put-there b m w e (omega arith) i t (λ (y : i ≡ w). omega arith) ∙ g.ahead i (omega arith) t;
        made = λ p f.
            rw (v, f k h) (push-if (entry_at b m) (entry_at (put_longs b w e) (put_words m w e)) w (entry_at a l k) (put-here b m w e g.sized (omega arith) ∙ q ∙ g.ahead k (omega arith) (omega arith))
            (λ i r. put-there b m w e (omega arith) i (omega arith) (λ (y : i ≡ w). omega arith)) (only p (from (entry_at a l) (k + 1) n)) (p (entry_at a l k))
            ∙ ap (λ (es : List Entry). from (entry_at b m) 0 w ++ es) (only_step (entry_at a l) k n p h) ∙ g.made p f);
      }

  pub going_end : (b m : List ℕ) (w k : ℕ) → Going flags a l b m n w k → n ≤ k → w ≤ n → n ≡ open_count l → KeptBy (λ i. get_or flags i false) a l b (set m L.count w)
  going_end b m w k g h o c =
      record {
        longs = g.longs;
        words = kept_set L.ids L.bids l m L.count w (omega arith) (omega arith) g.words;
        entries = λ p f.
            counted b m w g.sized.1 (omega arith)
            ∙ sym (append-nil (from (entry_at b m) 0 w))
            ∙ ap (λ (es : List Entry). from (entry_at b m) 0 w ++ es) (sym (only_end (entry_at a l) k n p h))
            ∙ g.made p (λ i q. f i (omega arith))
            ∙ ap (λ (x : ℕ). only p (from (entry_at a l) 0 x)) c;
      }
