-- Ranges in arrays: leg prices are found in them where all legs are near, and where one is not there are none.
use mathlib.Core.Path.{◌≡◌, refl, ap, sym, ◌∙◌}
use mathlib.Core.Bool.{Bool, true, false, ◌&&◌, true≢false}
use mathlib.Core.List.{List, [], ◌∷◌}
use mathlib.Core.Logic.{◌⊎◌, inl, inr, ⊎_elim}
use Prim.Native.Nat.{ℕ, zero, suc, ◌+◌, ◌-◌, ◌≤◌, ◌<◌}
use native.Mathlib.Decide.{ℕ_discrete, dec_lt, dec_le}
use native.Mathlib.Omega.{arith}
use borrow.Author.Count.{below_more}
use borrow.Author.Tests.{ne_eqb, lt-ltb, le-leb, lt-leb}
use lib.Dec.{eqb, leb, ltb}
use lib.ListN.{length, get_or, set, length-set}
use lib.Seq.{get_or-set_same, get_or-set_other}
use Rattle.std.specs.Prelude.{Option, None, Some}
use Rattle.rules.specs.Basics.{pick}
use Rattle.rules.specs.Strategy.{most_ratio}
use Rattle.rules.specs.Prices.{most_cents}
use Rattle.rules.specs.LegPrices.{LegPrices, unpriced, priced, Range, tries, part, search, most_wide, are_near, leg_prices, prices_taken}
use Rattle.rules.proofs.TestLaws.{lt_of, le_of, and_left, and_right, and_no}
use Rattle.types.specs.View.{from}
use Rattle.types.proofs.TableLaws.{from_cons, from_end, from-take}
use Rattle.state.proofs.TableLaws.{from-same}
use Rattle.state.specs.View.{flag, leg_at, leg_count, legs_of, quote_at}
use Rattle.quotes.specs.Ranges.{range_now}
use Rattle.records.specs.Records.{prices_from}
use Rattle.legprices.specs.declared.Ranges.{Ranges}
use Rattle.legprices.specs.Sums.{Bounded}
use Rattle.legprices.specs.Ranges.{range_at}
use Rattle.legprices.specs.Quoted.{quotes_now, price_used, is_near, Ranged}
use Rattle.legprices.proofs.QuotedLaws.{range_now_at, ranges_each, taken_each}

-- the range of a leg of four
pub range_known : (w : List ℕ) (buy : Bool) (taken : Option ℕ) (k : ℕ) (r : Range) → k < 4 → r ≡ range_now k buy taken (leg_at w k) (quote_at w k) → r ≡ range_now_at w buy taken k
range_known w buy taken k r h e = rw (lt-ltb k 4 h) at e

-- ---- near

module _ (b a : ℕ) where
  pub near-is : 0 < b → b ≤ a → a ≤ b + most_wide → true ≡ is_near b a
  near-is x y z = rw (lt-ltb 0 b x, le-leb b a y, le-leb a (b + most_wide) z)

  pub near-without : b ≡ 0 → false ≡ is_near b a
  near-without e = rw e

  pub near-crossed : a < b → false ≡ is_near b a
  near-crossed h = rw (lt-leb b a h, and_no (ltb 0 b) false refl)

  pub near-width : 0 < b → b ≤ a → leb (a - b) most_wide ≡ is_near b a
  near-width x y =
      elim (dec_le a (b + most_wide)) [
        | yes z ↦ rw (le-leb (a - b) most_wide (omega arith)) (near-is x y z)
        | no n ↦ rw (lt-leb (a - b) most_wide (omega arith), lt-leb a (b + most_wide) (omega arith)) (sym (and_no (ltb 0 b && leb b a) false refl))
      ]

  pub near-says : is_near b a ≡ true → (0 < b) × (b ≤ a) × (a ≤ b + most_wide)
  near-says h =
      let both = and_left (ltb 0 b && leb b a) (leb a (b + most_wide)) h in
      (lt_of 0 b (and_left (ltb 0 b) (leb b a) both), le_of b a (and_right (ltb 0 b) (leb b a) both), le_of a (b + most_wide) (and_right (ltb 0 b && leb b a) (leb a (b + most_wide)) h))

  far-says : is_near b a ≡ false → (b ≡ 0) ⊎ ((a < b) ⊎ (b + most_wide < a))
  far-says h =
      elim (dec_lt 0 b) [
        | no n ↦ inl (omega arith)
        | yes x ↦ elim (dec_le b a) [
          | no n ↦ inr (inl (omega arith))
          | yes y ↦ elim (dec_le a (b + most_wide)) [
            | no n ↦ inr (inr (omega arith))
            | yes z ↦ absurd (true≢false (near-is x y z ∙ h))
          ]
        ]
      ]

-- ---- whether all legs are

same : (b : Bool) → unpriced ≡ pick b unpriced unpriced
same true = refl
same false = refl

tries_none : (n p : ℕ) (f : ℕ → LegPrices) → ((p : ℕ) → f p ≡ unpriced) → tries n p f ≡ unpriced
tries_none zero p f h = refl
tries_none (suc n) p f h = rw (h p, tries_none n (suc p) f h)

third_no : (a b c d : Bool) → c ≡ false → (a && b && c && d) ≡ false
third_no a b c d h = rw (h, and_no (a && b) false refl)

module _ (g : ℕ → Range) (n : ℕ) where
  all_near : (d k : ℕ) → n - k ≡ d → ((i : ℕ) → i < n → is_near (g i).bid (g i).ask ≡ true) → are_near (from g k n) ≡ true
  all_near zero k e h = rw (from_end g k n (omega arith))
  all_near (suc d) k e h =
      let q = near-says (g k).bid (g k).ask (h k (omega arith)) in
      rw (from_cons g k n (omega arith), lt-ltb 0 (g k).bid q.0, lt-ltb 0 (g k).ask (omega (arith, q.0, q.1)), le-leb (g k).ask ((g k).bid + most_wide) q.2) (all_near d (k + 1) (omega arith) h)

  module _ (j : ℕ) (in-range : j < n) where
    not-near : ((g j).bid ≡ 0) ⊎ ((g j).bid + most_wide < (g j).ask) → (d k : ℕ) → j - k ≡ d → k ≤ j → are_near (from g k n) ≡ false
    not-near c zero k e h =
        let z : k ≡ j = omega arith in
        rw (z, from_cons g j n in-range)
        (⊎_elim (λ b. rw b) (λ w. third_no (ltb 0 (g j).bid) (ltb 0 (g j).ask) (leb (g j).ask ((g j).bid + most_wide)) (are_near (from g (j + 1) n)) (lt-leb (g j).ask ((g j).bid + most_wide) w)) c)
    not-near c (suc d) k e h =
        rw (from_cons g k n (omega arith), not-near c d (k + 1) (omega arith) (omega arith))
        (and_no (ltb 0 (g k).bid && ltb 0 (g k).ask && leb (g k).ask ((g k).bid + most_wide)) false refl)

    -- a leg whose ask is below its bid has no price
    none_found : (g j).ask < (g j).bid → (d k : ℕ) → j - k ≡ d → k ≤ j → (paid got : ℕ) → search (from g k n) paid got ≡ unpriced
    unfolding search
    none_found c zero k e h paid got =
        let z : k ≡ j = omega arith in
        let w : suc (g j).ask - (g j).bid ≡ 0 = omega arith in
        rw (z, from_cons g j n in-range, w)
    none_found c (suc d) k e h paid got =
        rw (from_cons g k n (omega arith))
        (tries_none (suc (g k).ask - (g k).bid) (g k).bid (λ p. search (from g (k + 1) n) (paid + part true (g k) p) (got + part false (g k) p))
        (λ p. none_found c d (k + 1) (omega arith) (omega arith) (paid + part true (g k) p) (got + part false (g k) p)))

    pub far_none : is_near (g j).bid (g j).ask ≡ false → (price : ℕ) → unpriced ≡ leg_prices (from g 0 n) price
    unfolding leg_prices
    far_none h price =
        ⊎_elim (λ b. rw (not-near (inl b) (j - 0) 0 refl (omega arith)))
        (⊎_elim (λ c. rw (none_found c (j - 0) 0 refl (omega arith) most_cents price) (same (are_near (from g 0 n)))) (λ w. rw (not-near (inr w) (j - 0) 0 refl (omega arith))))
        (far-says (g j).bid (g j).ask h)

near-found : (gs : List Range) (price : ℕ) → are_near gs ≡ true → search gs most_cents price ≡ leg_prices gs price
unfolding leg_prices
near-found gs price h = rw h

-- ---- the arrays, one leg after another

abbrev pub zeros : List ℕ
zeros = 0 ∷ 0 ∷ 0 ∷ 0 ∷ []

zeros_are : (k : ℕ) → get_or zeros k 0 ≡ 0
zeros_are zero = refl
zeros_are (suc zero) = refl
zeros_are (suc (suc zero)) = refl
zeros_are (suc (suc (suc zero))) = refl
zeros_are (suc (suc (suc (suc k)))) = refl

-- numbers stored at place k
module _ (l : List ℕ) (k x : ℕ) (h : k < length l) where
  here : get_or (set l k x) k 0 ≡ x
  here = get_or-set_same l k x 0 h

  most-set : (m : ℕ) → x ≤ m → ((i : ℕ) → get_or l i 0 ≤ m) → (i : ℕ) → get_or (set l k x) i 0 ≤ m
  most-set m b p i =
      elim (ℕ_discrete i k) [
        | yes e ↦ rw e (omega (arith, here))
        | no n ↦ omega (arith, get_or-set_other l k i x 0 n, p i)
      ]

module _ (w : List ℕ) (buy : Bool) (taken : Option ℕ) where
  -- the first k legs are near, and their ranges in the arrays
  pub record Filling (r : Ranges) (k : ℕ) : Type 0 where
    pub plus_sized : length r.plus ≡ 4
    pub ratios_sized : length r.ratios ≡ 4
    pub bids_sized : length r.bids ≡ 4
    pub widths_sized : length r.widths ≡ 4
    pub counted : r.count ≡ leg_count w
    pub bounded : Bounded r
    pub done : (i : ℕ) → i < k → range_at r i ≡ range_now_at w buy taken i
    pub near : (i : ℕ) → i < k → is_near (range_now_at w buy taken i).bid (range_now_at w buy taken i).ask ≡ true

  pub filling-start : (n : ℕ) → n ≡ leg_count w → n ≤ 4 → Filling (record { plus = zeros; ratios = zeros; bids = zeros; widths = zeros; count = n }) 0
  filling-start n c h =
      record {
        plus_sized = refl;
        ratios_sized = refl;
        bids_sized = refl;
        widths_sized = refl;
        counted = c;
        bounded = record { few = h; ratio = λ k. omega (arith, zeros_are k); width = λ k. omega (arith, zeros_are k) };
        done = λ i h. absurd (omega arith);
        near = λ i h. absurd (omega arith);
      }

  module _ (r : Ranges) (k : ℕ) (v : Filling r k) where
    pub filling_step : (p t b a : ℕ) → k < 4 → record { plus = flag p; ratio = t; bid = b; ask = a } ≡ range_now_at w buy taken k → is_near b a ≡ true
        → Filling (record { plus = set r.plus k p; ratios = set r.ratios k t; bids = set r.bids k b; widths = set r.widths k (a - b); count = r.count }) (k + 1)
    filling_step p t b a h e f =
        let q = near-says b a f in
        let rs : t ≤ most_ratio = omega (arith, ap (λ (g : Range). g.ratio) e) in
        let s = v.bounded in
        let wide : b + (a - b) ≡ a = omega (arith, q.1) in
        record {
          plus_sized = length-set r.plus k p ∙ v.plus_sized;
          ratios_sized = length-set r.ratios k t ∙ v.ratios_sized;
          bids_sized = length-set r.bids k b ∙ v.bids_sized;
          widths_sized = length-set r.widths k (a - b) ∙ v.widths_sized;
          counted = v.counted;
          bounded = record {
            few = s.few;
            ratio = most-set r.ratios k t (omega (arith, v.ratios_sized)) most_ratio rs s.ratio;
            width = most-set r.widths k (a - b) (omega (arith, v.widths_sized)) most_wide (omega (arith, q.2)) s.width;
          };
          done = below_more (λ i. range_at (record { plus = set r.plus k p; ratios = set r.ratios k t; bids = set r.bids k b; widths = set r.widths k (a - b); count = r.count }) i ≡ range_now_at w buy taken i) k
              (λ i x. let other : (l : List ℕ) (y : ℕ) → get_or (set l k y) i 0 ≡ get_or l i 0 = λ l y. get_or-set_other l k i y 0 (λ z. omega arith) in
              rw (other r.plus p, other r.ratios t, other r.bids b, other r.widths (a - b)) (v.done i x))
              (rw (here r.plus k p (omega (arith, v.plus_sized)), here r.ratios k t (omega (arith, v.ratios_sized)), here r.bids k b (omega (arith, v.bids_sized)), here r.widths k (a - b) (omega (arith, v.widths_sized)), wide) e);
          near = below_more (λ i. is_near (range_now_at w buy taken i).bid (range_now_at w buy taken i).ask ≡ true) k v.near
              (ap (λ (g : Range). is_near g.bid g.ask) (sym e) ∙ f);
        }

    pub filling-end : leg_count w ≤ k → Ranged w buy taken (Some r)
    filling-end h = (
      v.bounded,
      λ price.
          let n = leg_count w in
          let g = range_now_at w buy taken in
          ap (λ (m : ℕ). search (from (range_at r) 0 m) most_cents price) v.counted
          ∙ ap (λ (gs : List Range). search gs most_cents price) (from-same (range_at r) g 0 n (λ i a b. v.done i (omega arith)))
          ∙ near-found (from g 0 n) price (all_near g n (n - 0) 0 refl (λ i b. v.near i (omega arith)))
          ∙ ap (λ (gs : List Range). leg_prices gs price) (sym (ranges_each w buy taken)),
    )

  -- a leg that is not near
  pub filling-far : (k : ℕ) (r : Range) → k < leg_count w → r ≡ range_now_at w buy taken k → is_near r.bid r.ask ≡ false → Ranged w buy taken None
  filling-far k r h e t price =
      far_none (range_now_at w buy taken) (leg_count w) k h (ap (λ (g : Range). is_near g.bid g.ask) (sym e) ∙ t) price
      ∙ ap (λ (gs : List Range). leg_prices gs price) (sym (ranges_each w buy taken))

-- ---- the prices taken

module _ (w : List ℕ) (buy : Bool) (taken : Option ℕ) where
  -- those of the first k legs
  pub record Taking (prices : List ℕ) (k : ℕ) : Type 0 where
    pub sized : length prices ≡ 4
    pub done : (i : ℕ) → i < k → get_or prices i 0 ≡ price_used buy (range_now_at w buy taken i)

  pub taking-start : (prices : List ℕ) → length prices ≡ 4 → Taking prices 0
  taking-start prices h = record { sized = h; done = λ i b. absurd (omega arith) }

  pub taking_step : (prices : List ℕ) (k p : ℕ) (r : Range) → k < 4 → r ≡ range_now k buy taken (leg_at w k) (quote_at w k) → p ≡ price_used buy r → Taking prices k → Taking (set prices k p) (k + 1)
  taking_step prices k p r h e u v =
      record {
        sized = length-set prices k p ∙ v.sized;
        done = below_more (λ i. get_or (set prices k p) i 0 ≡ price_used buy (range_now_at w buy taken i)) k
            (λ i b. get_or-set_other prices k i p 0 (λ z. omega arith) ∙ v.done i b)
            (here prices k p (omega (arith, v.sized)) ∙ u ∙ ap (price_used buy) (range_known w buy taken k r h e));
      }

  pub taking-end : (prices : List ℕ) (k n : ℕ) → k ≡ leg_count w → n ≡ k + 1 → Taking prices k → prices_from n prices ≡ priced (prices_taken buy (legs_of w) (quotes_now w buy taken))
  taking-end prices k n e m v =
      let z : eqb n 0 ≡ false = ne_eqb n 0 (λ q. omega arith) in
      let l : n - 1 ≡ leg_count w = omega arith in
      rw (z, l)
      (ap priced
      (sym (from-take 0 prices (leg_count w) (omega (arith, v.sized))) ∙ from-same (λ i. get_or prices i 0) (λ i. price_used buy (range_now_at w buy taken i)) 0 (leg_count w) (λ i a b. v.done i (omega arith))
      ∙ sym (taken_each w buy taken)))
