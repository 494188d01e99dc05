-- The quotes of the legs as a turn goes on, each leg by itself.
use mathlib.Core.Path.{◌≡◌, refl, ap, ap₂, sym, ◌∙◌}
use mathlib.Core.Bool.{Bool, true, false}
use mathlib.Core.List.{List, [], ◌∷◌}
use Prim.Native.Nat.{ℕ, zero, suc, ◌+◌, ◌-◌, ◌*◌, ◌≤◌, min}
use native.Mathlib.Decide.{dec_lt}
use native.Mathlib.Omega.{arith}
use borrow.Author.Tests.{le-ltb}
use lib.ListN.{get_or}
use Rattle.std.specs.Prelude.{Option, None, Some}
use Rattle.std.specs.Option.{unwrap_or}
use Rattle.rules.specs.Basics.{pick}
use Rattle.rules.specs.Strategy.{Leg}
use Rattle.rules.specs.Prices.{Side, Quote, uses_ask, lowered, lower_quote, lower}
use Rattle.rules.specs.LegPrices.{Range, range_of, ranges_of, prices_taken}
use Rattle.rules.proofs.MarketLaws.{lower_twice}
use Rattle.types.specs.View.{from}
use Rattle.types.proofs.TableLaws.{from_cons, from_end}
use Rattle.state.proofs.TableLaws.{from-same}
use Rattle.state.specs.Layout as L
use Rattle.state.specs.View.{leg_at, leg_count, legs_of, quote_at, market_of}
use Rattle.quotes.specs.Uses.{most_word}
use Rattle.quotes.specs.Ranges.{quote_now}
use Rattle.legprices.specs.Quoted.{quotes_now, ranges_now, price_used}

-- ---- each leg by itself

module _ {A : Type 0} (F : List Leg → List Quote → List A) (h : Leg → Quote → A) (none : F [] [] ≡ []) (more : (l : Leg) (ls : List Leg) (q : Quote) (qs : List Quote) → F (l ∷ ls) (q ∷ qs) ≡ h l q ∷ F ls qs)
    (f : ℕ → Leg) (g : ℕ → Quote) (n : ℕ) where
  each_from : (d k : ℕ) → n - k ≡ d → F (from f k n) (from g k n) ≡ from (λ i. h (f i) (g i)) k n
  each_from zero k e = ap₂ F (from_end f k n (omega arith)) (from_end g k n (omega arith)) ∙ none ∙ sym (from_end (λ i. h (f i) (g i)) k n (omega arith))
  each_from (suc d) k e =
      ap₂ F (from_cons f k n (omega arith)) (from_cons g k n (omega arith)) ∙ more (f k) (from f (k + 1) n) (g k) (from g (k + 1) n)
      ∙ ap (λ (t : List A). h (f k) (g k) ∷ t) (each_from d (k + 1) (omega arith)) ∙ sym (from_cons (λ i. h (f i) (g i)) k n (omega arith))

lower_each : (buy : Bool) (units : ℕ) (f : ℕ → Leg) (g : ℕ → Quote) (n : ℕ) → lower buy units (from f 0 n) (from g 0 n) ≡ from (λ i. lower_quote (uses_ask buy (f i)) ((f i).ratio * units) (g i)) 0 n
unfolding lower
lower_each buy units f g n = each_from (lower buy units) (λ l q. lower_quote (uses_ask buy l) (l.ratio * units) q) refl (λ l ls q qs. refl) f g n (n - 0) 0 refl

module _ (w : List ℕ) (buy : Bool) (taken : Option ℕ) where
  -- the quote and the range of leg k
  abbrev pub quote_now_at : ℕ → Quote
  quote_now_at k = quote_now buy taken (leg_at w k) (quote_at w k)

  abbrev pub range_now_at : ℕ → Range
  range_now_at k = range_of (leg_at w k) (quote_now_at k)

quotes_each : (w : List ℕ) (buy : Bool) (taken : Option ℕ) → quotes_now w buy taken ≡ from (quote_now_at w buy taken) 0 (leg_count w)
quotes_each w buy (Some taken) = lower_each buy taken (leg_at w) (quote_at w) (leg_count w)
quotes_each w buy None = refl

pub ranges_each : (w : List ℕ) (buy : Bool) (taken : Option ℕ) → ranges_now w buy taken ≡ from (range_now_at w buy taken) 0 (leg_count w)
ranges_each w buy taken =
    ap (ranges_of (legs_of w)) (quotes_each w buy taken) ∙ each_from ranges_of range_of refl (λ l ls q qs. refl) (leg_at w) (quote_now_at w buy taken) (leg_count w) (leg_count w - 0) 0 refl

price_of : (b : Bool) (a c : Side) → (pick b a c).price ≡ pick b a.price c.price
price_of true a c = refl
price_of false a c = refl

pub taken_each : (w : List ℕ) (buy : Bool) (taken : Option ℕ) → prices_taken buy (legs_of w) (quotes_now w buy taken) ≡ from (λ k. price_used buy (range_now_at w buy taken k)) 0 (leg_count w)
taken_each w buy taken =
    ap (prices_taken buy (legs_of w)) (quotes_each w buy taken)
    ∙ each_from (prices_taken buy) (λ l q. price_used buy (range_of l q)) refl (λ l ls q qs. ap (λ (p : ℕ). p ∷ prices_taken buy ls qs) (price_of (uses_ask buy l) q.ask q.bid)) (leg_at w) (quote_now_at w buy taken) (leg_count w) (leg_count w - 0) 0 refl

-- ---- no side shows more than a word can be, so that no more need be taken

lowered_most : (s : Side) (r n : ℕ) → s.size ≤ most_word → lowered s (r * min n most_word) ≡ lowered s (r * n)
lowered_most s zero n h = let e : 0 * min n most_word ≡ 0 * n = omega arith in ap (lowered s) e
lowered_most s (suc r) n h =
    elim (dec_lt most_word n) [
      | yes l ↦
          let e : min n most_word ≡ most_word = omega arith in
          rw (e, le-ltb (suc r * most_word) s.size (omega arith), le-ltb (suc r * n) s.size (omega arith))
      | no m ↦
          let e : min n most_word ≡ n = omega arith in
          rw e
    ]

quote_most : (ask : Bool) (q : Quote) (r n : ℕ) → q.bid.size ≤ most_word → q.ask.size ≤ most_word → lower_quote ask (r * min n most_word) q ≡ lower_quote ask (r * n) q
quote_most true q r n b a = λ i. record { bid = q.bid; ask = lowered_most q.ask r n a i; national_bid = q.national_bid; national_ask = q.national_ask }
quote_most false q r n b a = λ i. record { bid = lowered_most q.bid r n b i; ask = q.ask; national_bid = q.national_bid; national_ask = q.national_ask }

pub lower_most : (w : List ℕ) (buy : Bool) (n : ℕ) → ((i : ℕ) → get_or w i 0 ≤ most_word) → lower buy (min n most_word) (legs_of w) (market_of w) ≡ lower buy n (legs_of w) (market_of w)
lower_most w buy n m =
    lower_each buy (min n most_word) (leg_at w) (quote_at w) (leg_count w)
    ∙ from-same (λ i. lower_quote (uses_ask buy (leg_at w i)) ((leg_at w i).ratio * min n most_word) (quote_at w i)) (λ i. lower_quote (uses_ask buy (leg_at w i)) ((leg_at w i).ratio * n) (quote_at w i)) 0 (leg_count w)
    (λ i a b. quote_most (uses_ask buy (leg_at w i)) (quote_at w i) (leg_at w i).ratio n (m (L.bid_sizes + i)) (m (L.ask_sizes + i)))
    ∙ sym (lower_each buy n (leg_at w) (quote_at w) (leg_count w))

-- the quotes after the legs gave some units more
pub quotes_after_lem : (w : List ℕ) (buy : Bool) (taken : Option ℕ) (units : ℕ) → ((i : ℕ) → get_or w i 0 ≤ most_word)
    → quotes_now w buy (Some (min (unwrap_or taken 0 + units) most_word)) ≡ lower buy units (legs_of w) (quotes_now w buy taken)
quotes_after_lem w buy (Some taken) units m = lower_most w buy (taken + units) m ∙ sym (lower_twice buy taken units (legs_of w) (market_of w))
quotes_after_lem w buy None units m = let e : 0 + units ≡ units = omega arith in rw e (lower_most w buy units m)
