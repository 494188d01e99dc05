-- The legs of a state and their quotes, one leg at a time; and the filter.
use mathlib.Core.Path.{◌≡◌, refl, ap, ap₂, sym, ◌∙◌}
use mathlib.Core.Bool.{Bool, true, false}
use mathlib.Core.List.{List, [], ◌∷◌}
use Prim.Native.Nat.{ℕ, ◌+◌, ◌-◌, ◌*◌, ◌/◌, ◌≤◌, ◌<◌, min}
use native.Mathlib.Nat.{div-zero, div-one, div-le_self, mul_comm}
use native.Mathlib.Omega.{arith}
use borrow.Author.Tests.{lt-ltb}
use lib.Dec.{ltb}
use lib.ListN.{get_or}
use Rattle.rules.specs.Basics.{pick}
use Rattle.rules.specs.Strategy.{Leg, Strategy, is_b}
use Rattle.rules.specs.Prices.{most_cents, Side, Quote, uses_ask, national_used, over, net, units_shown, least_from, least}
use Rattle.rules.specs.Filter.{all_national, amount_for, smallest, smallest_ratio, beyond, filtered}
use Rattle.rules.proofs.TestLaws.{and_no, pick_both}
use Rattle.types.specs.View.{from}
use Rattle.types.proofs.TableLaws.{from_cons, from_end}
use Rattle.state.specs.Layout as L
use Rattle.state.specs.View.{leg_at, leg_count, legs_of, quote_at, market_of}
use Rattle.quotes.specs.declared.Part.{Part}
use Rattle.quotes.specs.Uses.{price_used, most_word, most_cost, IsPart}

-- the legs from one on, and their quotes
abbrev pub legs_from : List ℕ → ℕ → List Leg
legs_from w k = from (leg_at w) k (leg_count w)

abbrev pub quotes_from : List ℕ → ℕ → List Quote
quotes_from w k = from (quote_at w) k (leg_count w)

-- whatever is made of them: the next leg, and the end
module _ {A : Type 0} (F : List Leg → List Quote → A) (w : List ℕ) (k : ℕ) where
  pub next-leg : k < leg_count w → F (legs_from w k) (quotes_from w k) ≡ F (leg_at w k ∷ legs_from w (k + 1)) (quote_at w k ∷ quotes_from w (k + 1))
  next-leg h = ap₂ F (from_cons (leg_at w) k (leg_count w) h) (from_cons (quote_at w) k (leg_count w) h)

  pub no-leg : leg_count w ≤ k → F (legs_from w k) (quotes_from w k) ≡ F [] []
  no-leg h = ap₂ F (from_end (leg_at w) k (leg_count w) h) (from_end (quote_at w) k (leg_count w) h)

-- ---- derived prices

pub no_ratio : (x r : ℕ) → r ≡ 0 → 0 ≡ x / r
no_ratio x r h = rw h (sym (div-zero x))

pub ratio_one : (x r : ℕ) → r ≡ 1 → x ≡ x / r
ratio_one x r h = rw h (sym (div-one x))

-- a leg's part, by its side
module _ (national ask : Bool) (l : Leg) (q : Quote) (x n : ℕ) (e : x ≡ l.ratio * price_used national ask l q) (m : x ≤ most_cost) (u : n ≡ units_shown ask l q) where
  pub part-bought : is_b l.side ≡ true → IsPart national ask l q (record { bought = x; sold = 0; units = n })
  part-bought t =
      record {
        bought = e ∙ ap (λ (b : Bool). pick b (l.ratio * price_used national ask l q) 0) (sym t);
        sold = ap (λ (b : Bool). pick b 0 (l.ratio * price_used national ask l q)) (sym t);
        units = u;
        most = (m, omega arith);
      }

  pub part-sold : is_b l.side ≡ false → IsPart national ask l q (record { bought = 0; sold = x; units = n })
  part-sold t =
      record {
        bought = ap (λ (b : Bool). pick b (l.ratio * price_used national ask l q) 0) (sym t);
        sold = e ∙ ap (λ (b : Bool). pick b 0 (l.ratio * price_used national ask l q)) (sym t);
        units = u;
        most = (omega arith, m);
      }

-- the sums over the legs before one, and the least of their units
module _ (national ask : Bool) (w : List ℕ) where
  abbrev over_from : Bool → ℕ → ℕ
  over_from b k = over b (price_used national ask) (legs_from w k) (quotes_from w k)

  pub record Summed (bought sold units k : ℕ) : Type 0 where
    pub costs : bought + over_from true k ≡ most_cents + over_from true 0
    pub gains : sold + over_from false k ≡ over_from false 0
    pub shown : least_from units ask (legs_from w k) (quotes_from w k) ≡ least_from most_word ask (legs_of w) (market_of w)
    pub most : (bought ≤ most_cents + k * most_cost) × (sold ≤ k * most_cost)

  pub summed-none : Summed most_cents 0 most_word 0
  summed-none = record { costs = refl; gains = omega arith; shown = refl; most = (omega arith, omega arith) }

  module _ (p : Part) (k : ℕ) (h : k < leg_count w) (i : IsPart national ask (leg_at w k) (quote_at w k) p) where
    next-bought : over_from true k ≡ p.bought + over_from true (k + 1)
    next-bought = next-leg (over true (price_used national ask)) w k h ∙ ap (λ (x : ℕ). x + over_from true (k + 1)) (sym i.bought)

    next-sold : over_from false k ≡ p.sold + over_from false (k + 1)
    next-sold = next-leg (over false (price_used national ask)) w k h ∙ ap (λ (x : ℕ). x + over_from false (k + 1)) (sym i.sold)

    pub summed-next : (bought sold units : ℕ) → Summed bought sold units k → Summed (bought + p.bought) (sold + p.sold) (min units p.units) (k + 1)
    summed-next bought sold units s =
        record {
          costs = omega (arith, next-bought);
          gains = omega (arith, next-sold);
          shown = ap (λ (x : ℕ). least_from (min units x) ask (legs_from w (k + 1)) (quotes_from w (k + 1))) i.units ∙ sym (next-leg (least_from units ask) w k h) ∙ s.shown;
          most = (omega (arith, s.most.0, i.most.0), omega (arith, s.most.1, i.most.1));
        }

  -- no leg shows more units than a word can be
  first-shown : 0 < leg_count w → ((i : ℕ) → get_or w i 0 ≤ most_word) → least_from most_word ask (legs_of w) (market_of w) ≡ least ask (legs_of w) (market_of w)
  first-shown h m =
      let r = (leg_at w 0).ratio in
      let u : units_shown ask (leg_at w 0) (quote_at w 0) ≤ most_word = pick_both (λ (s : Side). s.size / r ≤ most_word) (uses_ask ask (leg_at w 0)) {x = (quote_at w 0).ask} {y = (quote_at w 0).bid}
      (omega (arith, div-le_self (quote_at w 0).ask.size r, m (L.ask_sizes + 0))) (omega (arith, div-le_self (quote_at w 0).bid.size r, m (L.bid_sizes + 0))) in
      let e : min most_word (units_shown ask (leg_at w 0) (quote_at w 0)) ≡ units_shown ask (leg_at w 0) (quote_at w 0) = omega arith in
      next-leg (least_from most_word ask) w 0 h ∙ ap (λ (x : ℕ). least_from x ask (legs_from w 1) (quotes_from w 1)) e ∙ sym (next-leg (least ask) w 0 h)

  pub summed-all : (bought sold units k : ℕ) → 0 < leg_count w → ((i : ℕ) → get_or w i 0 ≤ most_word) → leg_count w ≤ k → Summed bought sold units k
      → (bought - sold ≡ net (price_used national ask) (legs_of w) (market_of w)) × (units ≡ least ask (legs_of w) (market_of w))
  summed-all bought sold units k h m e s = (
    omega (arith, no-leg (over true (price_used national ask)) w k e, no-leg (over false (price_used national ask)) w k e),
    sym (no-leg (least_from units ask) w k e) ∙ s.shown ∙ first-shown h m,
  )

-- ---- the filter

module _ (q : Quote) (qs : List Quote) where
  pub no-bid : q.national_bid ≡ 0 → false ≡ all_national (q ∷ qs)
  no-bid e = rw e

  pub no-ask : q.national_ask ≡ 0 → false ≡ all_national (q ∷ qs)
  no-ask e = rw (e, and_no (ltb 0 q.national_bid) false refl)

  pub both-sides : (q.national_bid ≡ 0 → ⊥) → (q.national_ask ≡ 0 → ⊥) → all_national qs ≡ all_national (q ∷ qs)
  both-sides b a = rw (lt-ltb 0 q.national_bid (omega arith), lt-ltb 0 q.national_ask (omega arith))

module _ (t : Strategy) (qs : List Quote) (buy : Bool) (limit : ℕ) where
  pub not-filtered : all_national qs ≡ false → false ≡ filtered t qs buy limit
  unfolding filtered
  not-filtered h = rw h

  pub filtered-by : (contra amount ratio : ℕ) → all_national qs ≡ true → contra ≡ net (national_used buy) t.legs qs → amount ≡ amount_for t.settings (smallest buy t.legs qs) → ratio ≡ smallest_ratio t.legs
      → beyond buy (ratio * amount) limit contra ≡ filtered t qs buy limit
  unfolding filtered
  filtered-by contra amount ratio h c a r = rw (h, c, a, r, mul_comm (smallest_ratio t.legs) (amount_for t.settings (smallest buy t.legs qs)))
