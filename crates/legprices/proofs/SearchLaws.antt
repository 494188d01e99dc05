-- One step of each loop of the search, and its end.
use mathlib.Core.Path.{◌≡◌, refl, ap, ap₂, sym, ◌∙◌}
use mathlib.Core.Bool.{Bool, true, false, ◌&&◌}
use mathlib.Core.List.{List, [], ◌∷◌, append-nil}
use mathlib.Core.Logic.{◌⊎◌, inl, inr}
use Prim.Native.Nat.{ℕ, zero, suc, ◌+◌, ◌-◌, ◌*◌, ◌≤◌, ◌<◌}
use native.Mathlib.Decide.{dec_lt}
use native.Mathlib.Numerals.{add-one}
use native.Mathlib.Omega.{arith}
use borrow.Author.Tests.{eq-eqb, ne_eqb, le-leb, lt-leb}
use lib.Dec.{leb}
use lib.ListN.{length, get_or, take, set}
use lib.Seq.{take-suc-set, append_snoc}
use Rattle.std.specs.Prelude.{Option, None, Some}
use Rattle.rules.specs.Basics.{pick, All}
use Rattle.rules.specs.LegPrices.{LegPrices, unpriced, priced, Range, before, tries}
use Rattle.rules.proofs.TestLaws.{le_of, and_left, and_no}
use Rattle.types.specs.View.{upto, from}
use Rattle.types.proofs.TableLaws.{from_cons, from_end}
use Rattle.state.specs.View.{flag}
use Rattle.records.specs.Records.{prices_from}
use Rattle.legprices.specs.declared.Ranges.{Ranges}
use Rattle.legprices.specs.Sums.{Span, span_at, spans_from, reach}
use Rattle.legprices.specs.Ranges.{range_at}
use Rattle.legprices.specs.Found.{counts, takes, found, least_paid, most_got, greatest, spans_of, is_priced, first, IsFirst, fits, behind}
use Rattle.legprices.proofs.SumLaws.{reach_above}
use Rattle.legprices.proofs.FoundLaws.{Ordered, counts_most, pick-priced, found-reach, tries-first, tries-last}

-- ---- the first number that passes

module _ (x end : ℕ) (f : ℕ → Bool) (h : x ≤ end) where
  one_more : end + 1 - x ≡ suc (end + 1 - (x + 1))
  one_more = omega arith

  pub first-hit : f x ≡ true → first (end + 1 - x) x f ≡ x
  first-hit e = rw (one_more, e)

  pub first_next : f x ≡ false → first (end + 1 - (x + 1)) (x + 1) f ≡ first (end + 1 - x) x f
  first_next e = rw (one_more, e) (ap (λ (k : ℕ). first (end + 1 - (x + 1)) k f) (add-one x))

pub first_end : (x end : ℕ) (f : ℕ → Bool) → end < x → first (end + 1 - x) x f ≡ x
first_end x end f h =
    let e : end + 1 - x ≡ 0 = omega arith in
    rw e

-- it passes, and so it does with numbers behind that don't, and from numbers on that don't
pub first_passes : (n x : ℕ) (f : ℕ → Bool) → first n x f < x + n → f (first n x f) ≡ true
first_passes zero x f h = absurd (omega arith)
first_passes (suc n) x f h = go (f x) refl h (first_passes n (suc x) f)
  where
    go : (t : Bool) → f x ≡ t → pick t x (first n (suc x) f) < x + suc n → (first n (suc x) f < suc x + n → f (first n (suc x) f) ≡ true) → f (pick t x (first n (suc x) f)) ≡ true
    go true e u later = e
    go false e u later = later (omega arith)

first_none : (n x : ℕ) (f : ℕ → Bool) → ((k : ℕ) → x ≤ k → k < x + n → f k ≡ false) → first n x f ≡ x + n
first_none zero x f h = omega arith
first_none (suc n) x f h =
    let e : first n (suc x) f ≡ suc x + n = first_none n (suc x) f (λ k u v. h k (omega arith) (omega arith)) in
    rw (h x (omega arith) (omega arith)) (omega arith)

first_late : (a n x : ℕ) (f : ℕ → Bool) → ((k : ℕ) → x ≤ k → k < x + a → f k ≡ false) → first (a + n) x f ≡ first n (x + a) f
first_late zero n x f h =
    let p : 0 + n ≡ n = omega arith in
    let q : x + 0 ≡ x = omega arith in
    rw (p, q)
first_late (suc a) n x f h =
    let p : suc a + n ≡ suc (a + n) = omega arith in
    let q : x + suc a ≡ suc x + a = omega arith in
    rw (p, q, h x (omega arith) (omega arith)) (first_late a n (suc x) f (λ k u v. h k (omega arith) (omega arith)))

first_early : (n m x : ℕ) (f : ℕ → Bool) → first n x f < x + n → first (n + m) x f ≡ first n x f
first_early zero m x f h = absurd (omega arith)
first_early (suc n) m x f h =
    let p : suc n + m ≡ suc (n + m) = omega arith in
    rw p (go (f x) h (first_early n m (suc x) f))
  where
    go : (t : Bool) → pick t x (first n (suc x) f) < x + suc n → (first n (suc x) f < suc x + n → first (n + m) (suc x) f ≡ first n (suc x) f) → pick t x (first (n + m) (suc x) f) ≡ pick t x (first n (suc x) f)
    go true u later = refl
    go false u later = later (omega arith)

first-over : (n m x : ℕ) (f : ℕ → Bool) → x + n ≤ first n x f → first (n + m) x f ≡ first m (x + n) f
first-over zero m x f h =
    let p : 0 + m ≡ m = omega arith in
    let q : x + 0 ≡ x = omega arith in
    rw (p, q)
first-over (suc n) m x f h =
    let p : suc n + m ≡ suc (n + m) = omega arith in
    let q : x + suc n ≡ suc x + n = omega arith in
    rw (p, q) (go (f x) h (first-over n m (suc x) f))
  where
    go : (t : Bool) → x + suc n ≤ pick t x (first n (suc x) f) → (suc x + n ≤ first n (suc x) f → first (n + m) (suc x) f ≡ first m (suc x + n) f) → pick t x (first (n + m) (suc x) f) ≡ first m (suc x + n) f
    go true u later = absurd (omega arith)
    go false u later = later (omega arith)

-- ---- the lowest price that fits

-- the prices before the first and behind the last that may do count too few cents or too many
out_below : (b : Bool) (w low high at j : ℕ) → high ≤ w → at ≡ pick b low (w - high) → j < at → (counts b w j < low) ⊎ (high < counts b w j)
out_below true w low high at j h a u = inl (omega arith)
out_below false w low high at j h a u = inr (omega arith)

out_above : (b : Bool) (w low high at end j : ℕ) → high ≤ w → low ≤ high → at ≡ pick b low (w - high) → end ≡ at + (high - low) → end < j → j ≤ w → (counts b w j < low) ⊎ (high < counts b w j)
out_above true w low high at end j h k a z u v = inr (omega arith)
out_above false w low high at end j h k a z u v = inl (omega arith)

at-within : (b : Bool) (w low high at : ℕ) → high ≤ w → low ≤ high → at ≡ pick b low (w - high) → at + (high - low) ≤ w
at-within true w low high at h k a = omega arith
at-within false w low high at h k a = omega arith

module _ (plus : Bool) (ratio width : ℕ) (gs : List Span) (rest s low high : ℕ) (g : rest ≡ greatest gs) (lows : (y : ℕ) → y < low → ratio * y + rest < s)
    (highs : (y : ℕ) → high < y → y ≤ width → s < ratio * y) (h : high ≤ width) where
  miss : (x : ℕ) → x ≤ width → (counts plus width x < low) ⊎ (high < counts plus width x) → fits plus ratio width gs s x ≡ false
  miss x v (inl u) =
      let y : ℕ = counts plus width x in
      and_no (leb (ratio * y) s) (reach gs (s - ratio * y)) (reach_above gs (s - ratio * y) (omega (arith, lows y u)))
  miss x v (inr u) = rw (lt-leb (ratio * counts plus width x) s (highs (counts plus width x) u (counts_most plus width x v)))

  pub lowest-none : high < low → first (width + 1) 0 (fits plus ratio width gs s) ≡ width + 1
  lowest-none k =
      let z : 0 + (width + 1) ≡ width + 1 = omega arith in
      first_none (width + 1) 0 (fits plus ratio width gs s) (λ x u v. miss x (omega arith) (either_way x)) ∙ z
    where
      either_way : (x : ℕ) → (counts plus width x < low) ⊎ (high < counts plus width x)
      either_way x =
          elim (dec_lt (counts plus width x) low) [
            | yes l ↦ inl l
            | no l ↦ inr (omega arith)
          ]

  module _ (k : low ≤ high) (at end : ℕ) (a : at ≡ pick plus low (width - high)) (z : end ≡ at + (high - low)) where
    from_at : first (width + 1) 0 (fits plus ratio width gs s) ≡ first (end + 1 - at + (width - end)) at (fits plus ratio width gs s)
    from_at =
        let w : at + (high - low) ≤ width = at-within plus width low high at h k a in
        let p : width + 1 ≡ at + (end + 1 - at + (width - end)) = omega arith in
        let q : 0 + at ≡ at = omega arith in
        ap (λ (n : ℕ). first n 0 (fits plus ratio width gs s)) p
        ∙ first_late at (end + 1 - at + (width - end)) 0 (fits plus ratio width gs s) (λ j u v. miss j (omega arith) (out_below plus width low high at j h a (omega arith)))
        ∙ ap (λ (t : ℕ). first (end + 1 - at + (width - end)) t (fits plus ratio width gs s)) q

    pub lowest-found : (r : Option ℕ) → IsFirst r end (first (end + 1 - at) at (fits plus ratio width gs s)) → IsFirst r width (first (width + 1) 0 (fits plus ratio width gs s))
    lowest-found (Some x) f =
        let e = f.0 in
        let u = f.1 in
        let w : at + (high - low) ≤ width = at-within plus width low high at h k a in
        (e ∙ sym (first_early (end + 1 - at) (width - end) at (fits plus ratio width gs s) (omega arith)) ∙ sym from_at, omega arith)
    lowest-found None e =
        let w : at + (high - low) ≤ width = at-within plus width low high at h k a in
        let p : at + (end + 1 - at) ≡ end + 1 = omega arith in
        let q : end + 1 + (width - end) ≡ width + 1 = omega arith in
        from_at ∙ first-over (end + 1 - at) (width - end) at (fits plus ratio width gs s) (omega arith) ∙ ap (λ (t : ℕ). first (width - end) t (fits plus ratio width gs s)) p
        ∙ first_none (width - end) (end + 1) (fits plus ratio width gs s) (λ j u v. miss j (omega arith) (out_above plus width low high at end j h k a z (omega arith) (omega arith))) ∙ q

-- ---- legs in arrays

module _ (r : Ranges) where
  upto-ordered : (k m : ℕ) → All Ordered (upto (range_at r) k m)
  unfolding upto
  upto-ordered k zero = tt
  upto-ordered k (suc m) = (omega arith, upto-ordered (k + 1) m)

  pub ranges-ordered : (i : ℕ) → All Ordered (from (range_at r) i r.count)
  ranges-ordered i = upto-ordered i (r.count - i)

  upto-spans : (k m : ℕ) → spans_of (upto (range_at r) k m) ≡ upto (span_at r) k m
  unfolding upto
  upto-spans k zero = refl
  upto-spans k (suc m) =
      let w : get_or r.bids k 0 + get_or r.widths k 0 - get_or r.bids k 0 ≡ get_or r.widths k 0 = omega arith in
      let later = upto-spans (k + 1) m in
      λ j. record { ratio = get_or r.ratios k 0; width = w j } ∷ later j

  pub spans-are : (i : ℕ) → spans_of (from (range_at r) i r.count) ≡ spans_from r i
  spans-are i = upto-spans i (r.count - i)

module _ (r : Ranges) (i : ℕ) (h : i < r.count) where
  pub paid-step : least_paid (from (range_at r) i r.count)
      ≡ pick (flag (get_or r.plus i 0)) (get_or r.ratios i 0 * get_or r.bids i 0) 0 + least_paid (from (range_at r) (i + 1) r.count)
  paid-step = ap least_paid (from_cons (range_at r) i r.count h)

  pub got-step : most_got (from (range_at r) i r.count)
      ≡ pick (flag (get_or r.plus i 0)) 0 (get_or r.ratios i 0 * (get_or r.bids i 0 + get_or r.widths i 0)) + most_got (from (range_at r) (i + 1) r.count)
  got-step = ap most_got (from_cons (range_at r) i r.count h)

  pub greatest-step : greatest (spans_from r i) ≡ get_or r.ratios i 0 * get_or r.widths i 0 + greatest (spans_from r (i + 1))
  greatest-step = ap greatest (from_cons (span_at r) i r.count h)

module _ (r : Ranges) (i : ℕ) (h : r.count ≤ i) where
  pub paid-end : least_paid (from (range_at r) i r.count) ≡ 0
  paid-end = ap least_paid (from_end (range_at r) i r.count h)

  pub got-end : most_got (from (range_at r) i r.count) ≡ 0
  got-end = ap most_got (from_end (range_at r) i r.count h)

  pub greatest-end : greatest (spans_from r i) ≡ 0
  greatest-end = ap greatest (from_end (span_at r) i r.count h)

-- ---- leg by leg

module _ (r : Ranges) (i : ℕ) (h : i < r.count) (s x : ℕ)
    (e : x ≡ first (get_or r.widths i 0 + 1) 0 (fits (flag (get_or r.plus i 0)) (get_or r.ratios i 0) (get_or r.widths i 0) (spans_from r (i + 1)) s)) where
  tried : ℕ → LegPrices
  tried p = let g = range_at r i in pick (leb (takes g p) s) (found (from (range_at r) (i + 1) r.count) (s - takes g p)) unpriced

  took : (k : ℕ) → takes (range_at r i) (get_or r.bids i 0 + k) ≡ get_or r.ratios i 0 * counts (flag (get_or r.plus i 0)) (get_or r.widths i 0) k
  took k =
      let w : get_or r.bids i 0 + get_or r.widths i 0 - get_or r.bids i 0 ≡ get_or r.widths i 0 = omega arith in
      let z : get_or r.bids i 0 + k - get_or r.bids i 0 ≡ k = omega arith in
      λ j. get_or r.ratios i 0 * counts (flag (get_or r.plus i 0)) (w j) (z j)

  tried-fits : (k : ℕ) → is_priced (tried (get_or r.bids i 0 + k)) ≡ fits (flag (get_or r.plus i 0)) (get_or r.ratios i 0) (get_or r.widths i 0) (spans_from r (i + 1)) s k
  unfolding tried
  tried-fits k =
      let gs = from (range_at r) (i + 1) r.count in
      let t : ℕ = takes (range_at r i) (get_or r.bids i 0 + k) in
      pick-priced (leb t s) (found gs (s - t))
      ∙ ap (λ (b : Bool). leb t s && b) (found-reach gs (s - t) (ranges-ordered r (i + 1)) ∙ ap (λ (l : List Span). reach l (s - t)) (spans-are r (i + 1)))
      ∙ ap (λ (t : ℕ). leb t s && reach (spans_from r (i + 1)) (s - t)) (took k)

  all-tried : found (from (range_at r) i r.count) s ≡ tries (get_or r.widths i 0 + 1) (get_or r.bids i 0 + 0) tried
  unfolding found tried
  all-tried =
      let p : suc (get_or r.bids i 0 + get_or r.widths i 0) - get_or r.bids i 0 ≡ get_or r.widths i 0 + 1 = omega arith in
      let q : get_or r.bids i 0 ≡ get_or r.bids i 0 + 0 = omega arith in
      ap (λ (l : List Range). found l s) (from_cons (range_at r) i r.count h) ∙ ap₂ (λ (k : ℕ) (b : ℕ). tries k b tried) p q

  does-fit : x ≤ get_or r.widths i 0 → fits (flag (get_or r.plus i 0)) (get_or r.ratios i 0) (get_or r.widths i 0) (spans_from r (i + 1)) s x ≡ true
  does-fit u =
      let F : ℕ → Bool = fits (flag (get_or r.plus i 0)) (get_or r.ratios i 0) (get_or r.widths i 0) (spans_from r (i + 1)) s in
      ap F e ∙ first_passes (get_or r.widths i 0 + 1) 0 F (omega arith)

  pub part-most : x ≤ get_or r.widths i 0 → get_or r.ratios i 0 * counts (flag (get_or r.plus i 0)) (get_or r.widths i 0) x ≤ s
  part-most u = let t : ℕ = get_or r.ratios i 0 * counts (flag (get_or r.plus i 0)) (get_or r.widths i 0) x in le_of t s (and_left (leb t s) (reach (spans_from r (i + 1)) (s - t)) (does-fit u))

  pub found-hit : x ≤ get_or r.widths i 0 → found (from (range_at r) i r.count) s
      ≡ before (get_or r.bids i 0 + x) (found (from (range_at r) (i + 1) r.count) (s - get_or r.ratios i 0 * counts (flag (get_or r.plus i 0)) (get_or r.widths i 0) x))
  unfolding tried
  found-hit u =
      let F : ℕ → Bool = fits (flag (get_or r.plus i 0)) (get_or r.ratios i 0) (get_or r.widths i 0) (spans_from r (i + 1)) s in
      let gs = from (range_at r) (i + 1) r.count in
      all-tried ∙ tries-first (get_or r.bids i 0) tried F tried-fits (get_or r.widths i 0 + 1) 0 (omega arith)
      ∙ ap (λ (y : ℕ). before (get_or r.bids i 0 + y) (tried (get_or r.bids i 0 + y))) (sym e)
      ∙ ap (λ (t : ℕ). before (get_or r.bids i 0 + x) (pick (leb t s) (found gs (s - t)) unpriced)) (took x)
      ∙ ap (λ (b : Bool). before (get_or r.bids i 0 + x) (pick b (found gs (s - get_or r.ratios i 0 * counts (flag (get_or r.plus i 0)) (get_or r.widths i 0) x)) unpriced)) (le-leb _ s (part-most u))

  pub found-miss : get_or r.widths i 0 < x → found (from (range_at r) i r.count) s ≡ unpriced
  found-miss u =
      let F : ℕ → Bool = fits (flag (get_or r.plus i 0)) (get_or r.ratios i 0) (get_or r.widths i 0) (spans_from r (i + 1)) s in
      all-tried ∙ tries-last (get_or r.bids i 0) tried F tried-fits (get_or r.widths i 0 + 1) 0 (omega arith)

-- ---- prices behind prices

pub behind_none : (r : LegPrices) → behind [] r ≡ r
behind_none unpriced = refl
behind_none (priced ps) = refl

pub behind_more : (i : ℕ) (l : List ℕ) (p : ℕ) (r : LegPrices) → i < length l → behind (take (i + 1) (set l i p)) r ≡ behind (take i l) (before p r)
behind_more i l p unpriced h = refl
behind_more i l p (priced qs) h = ap priced (rw (add-one, take-suc-set, append_snoc))

module _ (r : Ranges) (i : ℕ) (h : r.count ≤ i) (k : i ≤ r.count) (l : List ℕ) (s : ℕ) where
  pub all-priced : s ≡ 0 → prices_from (r.count + 1) l ≡ behind (take i l) (found (from (range_at r) i r.count) s)
  unfolding found
  all-priced e =
      let p : r.count + 1 - 1 ≡ r.count = omega arith in
      let q : i ≡ r.count = omega arith in
      rw (from_end (range_at r) i r.count h, eq-eqb s 0 e, ne_eqb (r.count + 1) 0 (λ z. omega arith), p, q) (ap priced (sym (append-nil (take r.count l))))

  pub none_left : (s ≡ 0 → ⊥) → unpriced ≡ behind (take i l) (found (from (range_at r) i r.count) s)
  unfolding found
  none_left e = rw (from_end (range_at r) i r.count h, ne_eqb s 0 e)
