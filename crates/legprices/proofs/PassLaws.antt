-- A pass over records: what is kept after each, and the leg prices that the list then has.
use mathlib.Core.Path.{◌≡◌, refl, ap, ap₂, sym, ◌∙◌}
use mathlib.Core.Bool.{Bool, true, false, true≢false}
use mathlib.Core.List.{List, [], ◌∷◌, ◌++◌, append-nil}
use Prim.Native.Nat.{ℕ, ◌+◌, ◌-◌, ◌*◌, ◌/◌, ◌≤◌, ◌<◌, min}
use native.Mathlib.Decide.{dec_lt, dec_le}
use native.Mathlib.Omega.{arith}
use borrow.Author.Tests.{lt-ltb}
use lib.ListN.{length, get_or}
use lib.Seq.{append_snoc}
use Rattle.std.specs.Prelude.{None, Some}
use Rattle.std.specs.Option.{unwrap_or}
use Rattle.rules.specs.Strategy.{Leg}
use Rattle.rules.specs.Prices.{biased, Quote, lower}
use Rattle.rules.specs.Turn.{Contra, legs, entry, Fill}
use Rattle.rules.specs.LegPrices.{LegPrices, priced, ranges_of, leg_prices, prices_taken, leg_prices_of, quotes_after, booked}
use Rattle.types.specs.View.{from}
use Rattle.types.proofs.TableLaws.{from_cons, from_end}
use Rattle.state.proofs.TableLaws.{from-same, from-join}
use Rattle.state.specs.View.{legs_of, market_of}
use Rattle.quotes.specs.Uses.{most_word}
use Rattle.records.specs.Records.{most_given, width, record_from, record_in, record_at, prices_from, prices_in, is_legs, Prices}
use Rattle.records.proofs.RecordLaws.{price_known}
use Rattle.legprices.specs.declared.Pass.{Pass}
use Rattle.legprices.specs.declared.Room.{Room}
use Rattle.legprices.specs.Books.{IsBooked}
use Rattle.legprices.specs.Going.{quotes_at, ranges_at, Held, FoundIn, Passed}
use Rattle.legprices.proofs.QuotedLaws.{quotes_after_lem}

-- where a pass stands after a record of the legs
abbrev pub lessened : ℕ → Pass
lessened taken = record { taken = Some taken; fresh = false; price = 0; count = 0 }

-- ---- nothing done yet

abbrev pub begun : Pass
begun = record { taken = None; fresh = false; price = 0; count = 0 }

pub held_none : (w : List ℕ) (buy : Bool) (r : Room) → length r.bits ≡ 44 → length r.prices ≡ 4 → Held w buy begun r
held_none w buy r b z =
    record {
      bits_sized = b;
      prices_sized = z;
      known = λ x. absurd (true≢false (sym x));
      made = λ x. absurd (true≢false (sym x));
      last = λ x. absurd (true≢false (sym x));
    }

-- ---- one record

pub price_most : (l : List ℕ) (j price : ℕ) → price ≡ biased (record_at l j).price → price ≤ most_given
price_most l j price e = omega (arith, price_known l j)

pub held_legs_lem : (w : List ℕ) (buy : Bool) (r : Room) (t : ℕ) → length r.bits ≡ 44 → length r.prices ≡ 4 → Held w buy (lessened t) r
held_legs_lem w buy r t b z =
    record {
      bits_sized = b;
      prices_sized = z;
      known = λ x. absurd (true≢false (sym x));
      made = λ x. absurd (true≢false (sym x));
      last = λ x. absurd (true≢false (sym x));
    }

module _ (buy : Bool) (ls : List Leg) (qs : List Quote) (price n : ℕ) where
  legs_shown : (c : Contra) → is_legs c ≡ true → (priced (prices_taken buy ls qs) ≡ leg_prices_of buy ls qs c price) × (lower buy n ls qs ≡ quotes_after buy ls qs c n)
  legs_shown legs h = (refl, refl)
  legs_shown (entry i) h = absurd (true≢false (sym h))

  entry-shown : (c : Contra) → is_legs c ≡ false → (leg_prices (ranges_of ls qs) price ≡ leg_prices_of buy ls qs c price) × (qs ≡ quotes_after buy ls qs c n)
  entry-shown legs h = absurd (true≢false h)
  entry-shown (entry i) h = (refl, refl)

prices_are : (old new : List ℕ) (j : ℕ) (a b : LegPrices) → a ≡ b → Prices old j new a → Prices old j new b
prices_are old new j a b e g = record { sized = g.sized; before = g.before; behind = g.behind; made = λ h. g.made h ∙ e }

module _ (w : List ℕ) (buy : Bool) (p : Pass) (old new : List ℕ) (j : ℕ) where
  pub passed-legs : (u t : ℕ) (shown : LegPrices) → ((i : ℕ) → get_or w i 0 ≤ most_word) → is_legs (record_at old j).contra ≡ true → u ≡ (record_at old j).units
      → t ≡ min (unwrap_or p.taken 0 + u) most_word → shown ≡ priced (prices_taken buy (legs_of w) (quotes_at w buy p)) → Prices old j new shown → Passed w buy p (lessened t) old new j
  passed-legs u t shown m l e s g q =
      let f = record_at old j in
      let is = legs_shown buy (legs_of w) (quotes_at w buy p) (biased f.price) f.units f.contra l in
      record {
        put = prices_are old new j shown (leg_prices_of buy (legs_of w) (quotes_at w buy p) f.contra (biased f.price)) (g ∙ is.0) q;
        after = rw (s, e) (quotes_after_lem w buy p.taken f.units m ∙ is.1);
      }

  pub passed_entry : (price : ℕ) (n : Pass) (r : Room) → is_legs (record_at old j).contra ≡ false → price ≡ biased (record_at old j).price → FoundIn w buy p price n r
      → Prices old j new (prices_from n.count r.prices) → Passed w buy p n old new j
  passed_entry price n r l e v q =
      let f = record_at old j in
      let is = entry-shown buy (legs_of w) (quotes_at w buy p) (biased f.price) f.units f.contra l in
      record {
        put = prices_are old new j (prices_from n.count r.prices) (leg_prices_of buy (legs_of w) (quotes_at w buy p) f.contra (biased f.price)) (v.found ∙ ap (leg_prices (ranges_at w buy p)) e ∙ is.0) q;
        after = v.same ∙ is.1;
      }

-- ---- one record after another

-- the records are as they were
records_same : (old new : List ℕ) (j : ℕ) (q : LegPrices) → Prices old j new q → (k : ℕ) → record_in new k ≡ record_in old k
records_same old new j q g k =
    let b : ℕ = k * width in
    λ i. record_from (at b (omega arith) (omega arith) i) (at (b + 1) (omega arith) (omega arith) i) (at (b + 2) (omega arith) (omega arith) i) (at (b + 3) (omega arith) (omega arith) i) (at (b + 4) (omega arith) (omega arith) i) (at (b + 5) (omega arith) (omega arith) i)
  where
    at : (i : ℕ) → k * width ≤ i → i < k * width + 6 → get_or new i 0 ≡ get_or old i 0
    at i x y =
        elim (dec_lt i (j * width + 6)) [
          | yes l ↦ g.before i l
          | no n ↦ g.behind i (omega arith)
        ]

-- so are the leg prices before it
prices-same : (old new : List ℕ) (j : ℕ) (q : LegPrices) → Prices old j new q → (k : ℕ) → k < j → prices_in new k ≡ prices_in old k
prices-same old new j q g k h =
    let at : (c : ℕ) → c < width → get_or new (k * width + c) 0 ≡ get_or old (k * width + c) 0 = λ c b. g.before (k * width + c) (omega arith) in
    λ i. prices_from (at 6 (omega arith) i) (at 7 (omega arith) i ∷ at 8 (omega arith) i ∷ at 9 (omega arith) i ∷ at 10 (omega arith) i ∷ [])

module _ (w list₀ : List ℕ) (at end : ℕ) (buy : Bool) where
  abbrev left : List Quote → ℕ → List LegPrices
  left qs j = booked buy (legs_of w) qs (from (record_in list₀) j end)

  -- the records before j have their leg prices
  pub record Booking (p : Pass) (list : List ℕ) (j : ℕ) : Type 0 where
    pub sized : length list ≡ length list₀
    pub before : (i : ℕ) → i < at * width → get_or list i 0 ≡ get_or list₀ i 0
    pub behind : (i : ℕ) → end * width ≤ i → get_or list i 0 ≡ get_or list₀ i 0
    pub records : (k : ℕ) → record_in list k ≡ record_in list₀ k
    pub prices : end * width ≤ length list₀ → from (prices_in list) at j ++ left (quotes_at w buy p) j ≡ left (market_of w) at

  pub booking-start : (p : Pass) → p.taken ≡ None → Booking p list₀ at
  booking-start p e =
      record { sized = refl; before = λ i h. refl; behind = λ i h. refl; records = λ k. refl; prices = λ h. rw (from_end (prices_in list₀) at at (omega arith), e) }

  left-next : (qs : List Quote) (j : ℕ) → j < end
      → left qs j ≡ leg_prices_of buy (legs_of w) qs (record_in list₀ j).contra (biased (record_in list₀ j).price) ∷ left (quotes_after buy (legs_of w) qs (record_in list₀ j).contra (record_in list₀ j).units) (j + 1)
  unfolding booked
  left-next qs j h = ap (booked buy (legs_of w) qs) (from_cons (record_in list₀) j end h)

  left_none : (qs : List Quote) (j : ℕ) → end ≤ j → left qs j ≡ []
  unfolding booked
  left_none qs j h = ap (booked buy (legs_of w) qs) (from_end (record_in list₀) j end h)

  pub booking-step : (p r : Pass) (list new : List ℕ) (j : ℕ) → at ≤ j → j < end → Booking p list j → Passed w buy p r list new j → Booking r new (j + 1)
  booking-step p r list new j a b v g =
      record {
        sized = g.put.sized ∙ v.sized;
        before = λ i h. g.put.before i (omega arith) ∙ v.before i h;
        behind = λ i h. g.put.behind i (omega arith) ∙ v.behind i h;
        records = λ k. records_same list new j _ g.put k ∙ v.records k;
        prices = λ h.
            let e : record_at list j ≡ record_in list₀ j = rw (lt-ltb j (length list / width) (omega (arith, v.sized))) (v.records j) in
            let f = record_in list₀ j in
            let qs = quotes_at w buy p in
            let shown = leg_prices_of buy (legs_of w) qs f.contra (biased f.price) in
            let one : prices_in new j ≡ shown = g.put.made (omega (arith, v.sized)) ∙ ap (λ (f : Fill). leg_prices_of buy (legs_of w) qs f.contra (biased f.price)) e in
            let next : quotes_at w buy r ≡ quotes_after buy (legs_of w) qs f.contra f.units = g.after ∙ ap (λ (f : Fill). quotes_after buy (legs_of w) qs f.contra f.units) e in
            let done : from (prices_in new) at (j + 1) ≡ from (prices_in list) at j ++ (shown ∷ []) =
            sym (from-join (prices_in new) at j (j + 1) a (omega arith))
            ∙ ap₂ (λ (x : List LegPrices) (y : List LegPrices). x ++ y) (from-same (prices_in new) (prices_in list) at j (λ k x y. prices-same list new j _ g.put k y))
            (from_cons (prices_in new) j (j + 1) (omega arith) ∙ ap₂ (λ (x : LegPrices) (y : List LegPrices). x ∷ y) one (from_end (prices_in new) (j + 1) (j + 1) (omega arith))) in
            ap₂ (λ (x : List LegPrices) (y : List Quote). x ++ left y (j + 1)) done next ∙ append_snoc (from (prices_in list) at j) shown (left (quotes_after buy (legs_of w) qs f.contra f.units) (j + 1))
            ∙ ap (λ (t : List LegPrices). from (prices_in list) at j ++ t) (sym (left-next qs j b)) ∙ v.prices h;
      }

  pub booking-end : (p : Pass) (list : List ℕ) (j : ℕ) → end ≤ j → j ≤ end + (at - end) → Booking p list j → IsBooked w list₀ at end buy list
  booking-end p list j a b v =
      record {
        sized = v.sized;
        before = v.before;
        behind = v.behind;
        records = v.records;
        prices = λ h.
            elim (dec_le at end) [
              | yes l ↦
                  let z : j ≡ end = omega arith in
                  let last = left_none (quotes_at w buy p) end (omega arith) in
                  sym (append-nil (from (prices_in list) at end)) ∙ ap (λ (t : List LegPrices). from (prices_in list) at end ++ t) (sym last) ∙ (rw z at (v.prices h))
              | no n ↦ from_end (prices_in list) at end (omega arith) ∙ sym (left_none (market_of w) at (omega arith))
            ];
      }
