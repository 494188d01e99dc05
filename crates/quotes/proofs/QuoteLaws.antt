-- A quote stored in the words of a state: read back, the others as they were; and the state with one quote changed, or all.
use mathlib.Core.Path.{◌≡◌, refl, ap, sym, ◌∙◌}
use mathlib.Core.Bool.{Bool}
use mathlib.Core.List.{List, [], ◌∷◌}
use Prim.Native.Nat.{ℕ, zero, suc, ◌+◌, ◌-◌, ◌*◌, ◌≤◌, ◌<◌, min}
use native.Mathlib.Omega.{arith}
use borrow.Author.Count.{below_more}
use lib.ListN.{get_or}
use Rattle.rules.specs.Prices.{Quote, uses_ask, lower_quote, lower}
use Rattle.rules.specs.State.{with_market}
use Rattle.rules.specs.Step.{changed}
use Rattle.types.specs.declared.Quote.{Quote as Stored}
use Rattle.types.specs.View.{from, quote_of}
use Rattle.types.proofs.TableLaws.{from_cons, from_end}
use Rattle.state.specs.Layout as L
use Rattle.state.specs.Layout.{WordsSized}
use Rattle.state.specs.View.{leg_at, leg_count, legs_of, quote_at, market_of, state_of}
use Rattle.state.specs.Stores.{Kept, Store, store, stores}
use Rattle.state.proofs.TableLaws.{from-same}
use Rattle.state.proofs.StoreLaws.{stores_other, rising_read, kept_all, kept_then}
use Rattle.state.proofs.StateLaws.{market-alone}
use Rattle.quotes.specs.Requoted.{Requoted}
use Rattle.quotes.proofs.LegLaws.{legs_from, quotes_from, next-leg, no-leg}

-- ---- one quote stored

-- the words of a quote, where they are stored
abbrev pub quote_stores : ℕ → Stored → List Store
quote_stores k q =
    store (L.bids + k) q.bid
    ∷ store (L.bid_sizes + k) q.bidsize
    ∷ store (L.asks + k) q.ask
    ∷ store (L.ask_sizes + k) q.asksize
    ∷ store (L.national_bids + k) q.nationalbid
    ∷ store (L.national_asks + k) q.nationalask
    ∷ []

module _ (w : List ℕ) (k : ℕ) (q : Stored) where
  stored_other : (i : ℕ) → ((j : ℕ) → j < 6 → i ≡ L.bids + j * 4 + k → ⊥) → get_or (stores w (quote_stores k q)) i 0 ≡ get_or w i 0
  stored_other i n =
      stores_other w (quote_stores k q) i
      (λ e. n 0 (omega arith) (omega arith), (λ e. n 1 (omega arith) (omega arith), (λ e. n 2 (omega arith) (omega arith), (λ e. n 3 (omega arith) (omega arith), (λ e. n 4 (omega arith) (omega arith), (λ e. n 5 (omega arith) (omega arith), tt))))))

  stored_here : WordsSized w → k < 4 → quote_at (stores w (quote_stores k q)) k ≡ quote_of q
  stored_here z h =
      let e = rising_read w L.bids L.sides (quote_stores k q) (omega arith)
      (omega arith, omega arith, (omega arith, omega arith, (omega arith, omega arith, (omega arith, omega arith, (omega arith, omega arith, (omega arith, omega arith, tt)))))) in
      λ i. record {
        bid = record { price = e.0 i; size = e.1.0 i };
        ask = record { price = e.1.1.0 i; size = e.1.1.1.0 i };
        national_bid = e.1.1.1.1.0 i;
        national_ask = e.1.1.1.1.1.0 i;
      }

  stored_there : k < 4 → (i : ℕ) → i < 4 → (i ≡ k → ⊥) → quote_at (stores w (quote_stores k q)) i ≡ quote_at w i
  stored_there h i b n =
      let other : (c : ℕ) → get_or (stores w (quote_stores k q)) (L.bids + c * 4 + i) 0 ≡ get_or w (L.bids + c * 4 + i) 0 = λ c. stored_other (L.bids + c * 4 + i) (λ j r e. n (omega arith)) in
      λ x. record {
        bid = record { price = other 0 x; size = other 1 x };
        ask = record { price = other 2 x; size = other 3 x };
        national_bid = other 4 x;
        national_ask = other 5 x;
      }

  pub requoted : WordsSized w → k < 4 → Requoted k (quote_of q) w (stores w (quote_stores k q))
  requoted z h =
      record {
        kept = record { below = λ i p. stored_other i (λ j r e. omega arith); above = λ i p. stored_other i (λ j r e. omega arith) };
        here = stored_here z h;
        there = stored_there h;
      }

-- ---- the state with other quotes

market_is : (l m : List ℕ) → Kept L.bids L.sides l m → (qs : List Quote) → from (quote_at m) 0 (leg_count l) ≡ qs → (longs : List ℕ) → state_of longs m ≡ with_market (state_of longs l) qs
market_is l m keep qs e longs =
    market-alone longs l m keep ∙ ap (with_market (state_of longs l)) (ap (λ (x : ℕ). from (quote_at m) 0 (min x 4)) (keep.above L.leg_counts (omega arith)) ∙ e)

-- one changed
from-changed : (g r : ℕ → Quote) (n : ℕ) (f : Quote → Quote) (d j k : ℕ) → n - j ≡ d → (j + k < n → r (j + k) ≡ f (g (j + k))) → ((i : ℕ) → j ≤ i → i < n → (i ≡ j + k → ⊥) → r i ≡ g i) → from r j n ≡ changed f k (from g j n)
from-changed g r n f zero j k e h p = rw (from_end r j n (omega arith), from_end g j n (omega arith))
from-changed g r n f (suc d) j zero e h p =
    let z : j + 0 ≡ j = omega arith in
    let q : r j ≡ f (g j) = rw z at (h (omega arith)) in
    rw (from_cons r j n (omega arith), from_cons g j n (omega arith), q, from-same r g (j + 1) n (λ i a b. p i (omega arith) b (λ s. omega arith)))
from-changed g r n f (suc d) j (suc k) e h p =
    let z : j + suc k ≡ j + 1 + k = omega arith in
    rw (
      from_cons r j n (omega arith),
      from_cons g j n (omega arith),
      p j (omega arith) (omega arith) (λ s. omega arith),
      from-changed g r n f d (j + 1) k (omega arith) (λ b. rw z at (h (omega arith))) (λ i a b s. p i (omega arith) b (λ t. s (t ∙ z))),
    )

module _ (f : Quote → Quote) (k : ℕ) where
  pub one-changed : (q : Quote) (l m : List ℕ) → q ≡ f (quote_at l k) → Requoted k q l m → (longs : List ℕ) → state_of longs m ≡ with_market (state_of longs l) (changed f k (market_of l))
  one-changed q l m e r =
      let z : 0 + k ≡ k = omega arith in
      market_is l m r.kept (changed f k (market_of l))
      (from-changed (quote_at l) (quote_at m) (leg_count l) f (leg_count l - 0) 0 k refl (λ b. rw z (r.here ∙ e)) (λ i a b n. r.there i (omega arith) (λ e. n (omega arith))))

  pub none-changed : (l : List ℕ) → leg_count l ≤ k → (longs : List ℕ) → state_of longs l ≡ with_market (state_of longs l) (changed f k (market_of l))
  none-changed l h longs =
      ap (with_market (state_of longs l)) (from-changed (quote_at l) (quote_at l) (leg_count l) f (leg_count l - 0) 0 k refl (λ b. absurd (omega arith)) (λ i a b n. refl))

-- ---- each less what so many units take of its leg

module _ (ask : Bool) (units : ℕ) where
  -- what the quote of a leg becomes
  abbrev pub lowered_at : List ℕ → ℕ → Quote
  lowered_at w i = lower_quote (uses_ask ask (leg_at w i)) ((leg_at w i).ratio * units) (quote_at w i)

  -- the legs before k are lowered, the others as they were
  pub record Lowering (w l : List ℕ) (k : ℕ) : Type 0 where
    pub kept : Kept L.bids L.sides w l
    pub done : (i : ℕ) → i < k → quote_at l i ≡ lowered_at w i
    pub ahead : (i : ℕ) → k ≤ i → i < 4 → quote_at l i ≡ quote_at w i

  pub lowering-start : (w : List ℕ) → Lowering w w 0
  lowering-start w = record { kept = kept_all L.bids L.sides w; done = λ i h. absurd (omega arith); ahead = λ i h b. refl }

  pub lowering-step : (w l m : List ℕ) (k : ℕ) → k < 4 → Lowering w l k → Requoted k (lowered_at l k) l m → Lowering w m (k + 1)
  lowering-step w l m k h g r =
      let e : lowered_at l k ≡ lowered_at w k = rw (g.kept.above (L.sides + k) (omega arith), g.kept.above (L.ratios + k) (omega arith), g.ahead k (omega arith) h) in
      record {
        kept = kept_then L.bids L.sides L.bids L.sides L.bids L.sides w l m (omega arith) (omega arith) (omega arith) (omega arith) g.kept r.kept;
        done = below_more (λ i. quote_at m i ≡ lowered_at w i) k (λ i b. r.there i (omega arith) (λ z. omega arith) ∙ g.done i b) (r.here ∙ e);
        ahead = λ i b c. r.there i c (λ z. omega arith) ∙ g.ahead i (omega arith) c;
      }

  lowered-from : (w : List ℕ) (r : ℕ → Quote) (d k : ℕ) → leg_count w - k ≡ d → ((i : ℕ) → i < leg_count w → r i ≡ lowered_at w i) → from r k (leg_count w) ≡ lower ask units (legs_from w k) (quotes_from w k)
  unfolding lower
  lowered-from w r zero k e p = rw (from_end r k (leg_count w) (omega arith)) (sym (no-leg (lower ask units) w k (omega arith)))
  lowered-from w r (suc d) k e p =
      rw (from_cons r k (leg_count w) (omega arith), p k (omega arith), lowered-from w r d (k + 1) (omega arith) p) (sym (next-leg (lower ask units) w k (omega arith)))

  pub lowering-end : (w l : List ℕ) (k : ℕ) → leg_count w ≤ k → Lowering w l k → (longs : List ℕ) → state_of longs l ≡ with_market (state_of longs w) (lower ask units (legs_of w) (market_of w))
  lowering-end w l k h g =
      market_is w l g.kept (lower ask units (legs_of w) (market_of w)) (lowered-from w (quote_at l) (leg_count w - 0) 0 refl (λ i b. g.done i (omega arith)))
