-- A change in one region of the slices changes that part of the state alone.
use mathlib.Core.Path.{◌≡◌, refl}
use mathlib.Core.Bool.{Bool, true, false}
use mathlib.Core.List.{List}
use Prim.Native.Nat.{ℕ, ◌+◌, ◌*◌, ◌≤◌, ◌<◌}
use native.Mathlib.Omega.{arith}
use borrow.Author.Tests.{eq-eqb}
use lib.Dec.{eqb}
use lib.ListN.{length, get_or}
use Rattle.rules.specs.Basics.{pick}
use Rattle.rules.specs.State.{none, pending, state_from, with_book, with_market, with_auction, is_pending}
use Rattle.rules.proofs.TestLaws.{eq_of, and_left, and_right}
use Rattle.state.specs.Layout as L
use Rattle.state.specs.Layout.{Sized, is_sized}
use Rattle.state.specs.View.{flag, entry_at, open_count, entries_of, leg_at, leg_count, legs_of, quote_at, market_of, start_at, start_count, pending_of, settings_of, strategy_of, auction_of, clock_of, state_of}
use Rattle.state.specs.Stores.{Kept}
use Rattle.state.proofs.TableLaws.{from-same}

-- the numbers from a to before b are the same
abbrev Same : ℕ → ℕ → List ℕ → List ℕ → Type 0
Same a b l m = (i : ℕ) → a ≤ i → i < b → get_or m i 0 ≡ get_or l i 0

-- ---- each part of the state, by the numbers that it reads

module _ (l m : List ℕ) where
  legs-same : Same L.sides L.minimum l m → Same L.symbols 580 l m → legs_of m ≡ legs_of l
  legs-same s y =
      rw (s L.leg_counts (omega arith) (omega arith)) (from-same (leg_at m) (leg_at l) 0 (leg_count l) (λ k p q.
      rw (
        from-same (λ i. get_or m (L.symbols + 21 * k + i) 0) (λ i. get_or l (L.symbols + 21 * k + i) 0) 0 21 (λ i u v. y (L.symbols + 21 * k + i) (omega arith) (omega arith)),
        s (L.sides + k) (omega arith) (omega arith),
        s (L.ratios + k) (omega arith) (omega arith),
        s (L.mpvs + k) (omega arith) (omega arith),
      )))

  quotes-same : Same L.bids L.minimum l m → market_of m ≡ market_of l
  quotes-same s =
      rw (s L.leg_counts (omega arith) (omega arith)) (from-same (quote_at m) (quote_at l) 0 (leg_count l) (λ k p q.
      rw (
        s (L.bids + k) (omega arith) (omega arith),
        s (L.bid_sizes + k) (omega arith) (omega arith),
        s (L.asks + k) (omega arith) (omega arith),
        s (L.ask_sizes + k) (omega arith) (omega arith),
        s (L.national_bids + k) (omega arith) (omega arith),
        s (L.national_asks + k) (omega arith) (omega arith),
      )))

module _ (a b l m : List ℕ) where
  book-same : Same L.arrivals L.next a b → Same L.ids L.bids l m → entries_of b m ≡ entries_of a l
  book-same t s =
      rw (s L.count (omega arith) (omega arith)) (from-same (entry_at b m) (entry_at a l) 0 (open_count l) (λ k p q.
      rw (
        s (L.ids + k) (omega arith) (omega arith),
        s (L.participants + k) (omega arith) (omega arith),
        s (L.prices + k) (omega arith) (omega arith),
        s (L.units + k) (omega arith) (omega arith),
        s (L.buys + k) (omega arith) (omega arith),
        s (L.customers + k) (omega arith) (omega arith),
        s (L.stages + k) (omega arith) (omega arith),
        t (L.arrivals + k) (omega arith) (omega arith),
      )))

  settings-same : Same L.first_number 71 a b → Same L.minimum L.pending l m → settings_of b m ≡ settings_of a l
  settings-same t s =
      rw (
        s L.minimum (omega arith) (omega arith),
        s L.interval (omega arith) (omega arith),
        s L.distance (omega arith) (omega arith),
        s L.most_legs (omega arith) (omega arith),
        s L.amounts (omega arith) (omega arith),
        s (L.amounts + 1) (omega arith) (omega arith),
        s (L.amounts + 2) (omega arith) (omega arith),
        t L.first_number (omega arith) (omega arith),
        t L.opening_time (omega arith) (omega arith),
      )

  starts-same : Same L.deadline L.first_number a b → Same L.pending L.symbols l m → (pending_of b m).start ≡ (pending_of a l).start
  starts-same t s =
      rw (t L.start_count (omega arith) (omega arith))
      (from-same (start_at b m) (start_at a l) 0 (start_count a) (λ k p q. rw (s (L.start_units + k) (omega arith) (omega arith), t (L.start_prices + k) (omega arith) (omega arith))))

  auction-same : Same L.deadline L.first_number a b → Same L.pending L.symbols l m → auction_of b m ≡ auction_of a l
  auction-same t s =
      λ i. pick (flag (s L.pending (omega arith) (omega arith) i))
      (pending (record { buy = flag (s L.buy (omega arith) (omega arith) i); deadline = t L.deadline (omega arith) (omega arith) i; start = starts-same t s i }))
      none

clock_same : (a b : List ℕ) → Same L.next L.deadline a b → clock_of b ≡ clock_of a
clock_same a b t = rw (t L.next (omega arith) (omega arith), t L.time (omega arith) (omega arith))

-- ---- one region alone

module _ (a b l m : List ℕ) where
  pub book-alone : Kept L.arrivals L.next a b → Kept L.ids L.bids l m → state_of b m ≡ with_book (state_of a l) (entries_of b m)
  book-alone t s =
      λ i. state_from
      (record {
        legs = legs-same l m (λ j p q. s.above j (omega arith)) (λ j p q. s.above j (omega arith)) i;
        settings = settings-same a b l m (λ j p q. t.above j (omega arith)) (λ j p q. s.above j (omega arith)) i;
      })
      (quotes-same l m (λ j p q. s.above j (omega arith)) i)
      (entries_of b m)
      (auction-same a b l m (λ j p q. t.above j (omega arith)) (λ j p q. s.above j (omega arith)) i)
      (clock_same a b (λ j p q. t.above j (omega arith)) i)

  pub auction-alone : Kept L.deadline L.first_number a b → Kept L.pending L.symbols l m → state_of b m ≡ with_auction (state_of a l) (auction_of b m)
  auction-alone t s =
      λ i. state_from
      (record {
        legs = legs-same l m (λ j p q. s.below j (omega arith)) (λ j p q. s.above j (omega arith)) i;
        settings = settings-same a b l m (λ j p q. t.above j (omega arith)) (λ j p q. s.below j (omega arith)) i;
      })
      (quotes-same l m (λ j p q. s.below j (omega arith)) i)
      (book-same a b l m (λ j p q. t.below j (omega arith)) (λ j p q. s.below j (omega arith)) i)
      (auction_of b m)
      (clock_same a b (λ j p q. t.below j (omega arith)) i)

pub market-alone : (a l m : List ℕ) → Kept L.bids L.sides l m → state_of a m ≡ with_market (state_of a l) (market_of m)
market-alone a l m s =
    λ i. state_from
    (record {
      legs = legs-same l m (λ j p q. s.above j (omega arith)) (λ j p q. s.above j (omega arith)) i;
      settings = settings-same a a l m (λ j p q. refl) (λ j p q. s.above j (omega arith)) i;
    })
    (market_of m)
    (book-same a a l m (λ j p q. refl) (λ j p q. s.below j (omega arith)) i)
    (auction-same a a l m (λ j p q. refl) (λ j p q. s.above j (omega arith)) i)
    (clock_of a)

pub clock_alone : (a b l : List ℕ) → Kept L.next L.deadline a b → state_of b l ≡ state_from (strategy_of a l) (market_of l) (entries_of a l) (auction_of a l) (clock_of b)
clock_alone a b l t =
    λ i. state_from
    (record { legs = legs_of l; settings = settings-same a b l l (λ j p q. t.above j (omega arith)) (λ j p q. refl) i })
    (market_of l)
    (book-same a b l l (λ j p q. t.below j (omega arith)) (λ j p q. refl) i)
    (auction-same a b l l (λ j p q. t.above j (omega arith)) (λ j p q. refl) i)
    (clock_of b)

-- ---- an auction is pending where its flag is set

pub pending-flag : (longs words : List ℕ) → flag (get_or words L.pending 0) ≡ is_pending (auction_of longs words)
pending-flag longs words = go (flag (get_or words L.pending 0))
  where
    go : (b : Bool) → b ≡ is_pending (pick b (pending (pending_of longs words)) none)
    go true = refl
    go false = refl

-- ---- slices of a state's lengths

pub sized_so : (longs words : List ℕ) → is_sized longs words ≡ true → Sized longs words
sized_so longs words h = (
  eq_of (length longs) 71 (and_left (eqb (length longs) 71) (eqb (length words) 580) h),
  eq_of (length words) 580 (and_right (eqb (length longs) 71) (eqb (length words) 580) h),
)

pub sized_is : (longs words : List ℕ) → Sized longs words → is_sized longs words ≡ true
sized_is longs words h = rw (eq-eqb (length longs) 71 h.0, eq-eqb (length words) 580 h.1) refl

pub sized_not : (longs words : List ℕ) → (Sized longs words → ⊥) → is_sized longs words ≡ false
sized_not longs words n = go (is_sized longs words) (λ e. n (sized_so longs words e))
  where
    go : (b : Bool) → (b ≡ true → ⊥) → b ≡ false
    go true f = absurd (f refl)
    go false f = refl
