-- What an accepted opening stores is the state that it begins with.
use mathlib.Core.Path.{◌≡◌, refl, ap, ◌∙◌}
use mathlib.Core.Bool.{Bool, true, ◌&&◌}
use mathlib.Core.List.{List, []}
use Prim.Native.Nat.{ℕ, zero, suc, ◌+◌, ◌-◌, ◌*◌, ◌≤◌, ◌<◌, min}
use native.Mathlib.Nat.{min-eq_left}
use native.Mathlib.Omega.{arith}
use lib.Dec.{leb}
use lib.ListN.{length, get_or}
use lib.Seq.{take_all}
use Rattle.rules.specs.Basics.{pick, between, all, All}
use Rattle.rules.specs.Series.{good_symbol}
use Rattle.rules.specs.Strategy as S
use Rattle.rules.specs.Strategy.{most_interval, most_distance, most_minimum, most_amount, most_number, most_time, is_leg_count, good_ratios, good_settings, opening_row, opening_refusal}
use Rattle.rules.specs.Prices.{Quote}
use Rattle.rules.specs.State.{none, pending, state_from}
use Rattle.rules.specs.Run.{absent, no_quotes, start_of}
use Rattle.rules.proofs.TestLaws.{le_of, eq_of, and_left, and_right, not_true, between_high}
use Rattle.rules.proofs.RowLaws.{NoneOf, none_of}
use Rattle.types.specs.View as T
use Rattle.types.specs.View.{upto, from, no_leg, opening_of}
use Rattle.types.specs.declared.Opening.{Opening}
use Rattle.types.proofs.TableLaws.{from_end, from-length, from-take}
use Rattle.state.specs.Layout as L
use Rattle.state.specs.Layout.{Sized}
use Rattle.state.specs.View.{flag, entry_at, open_count, entries_of, symbol_of, leg_at, leg_count, legs_of, quote_at, market_of, pending_of, auction_of, state_of}
use Rattle.state.specs.Stores.{Kept, stores}
use Rattle.state.proofs.TableLaws.{from-same}
use Rattle.state.proofs.StoreLaws.{stores_other, stores-length, Rising, rising_read, rising_kept}
use Rattle.opening.specs.Stored.{HasLeg, NothingQuoted, count_stores, setting_stores, clock_stores}

-- ---- what an accepted opening keeps

-- what holds of all of a table holds of each
all-upto : {A : Type 0} (p : A → Bool) (f : ℕ → A) (k n i : ℕ) → all p (upto f k n) ≡ true → i < n → p (f (k + i)) ≡ true
unfolding upto
all-upto p f k zero i e h = absurd (omega arith)
all-upto p f k (suc n) zero e h = let z : k + 0 ≡ k = omega arith in rw z (and_left (p (f k)) (all p (upto f (k + 1) n)) e)
all-upto p f k (suc n) (suc i) e h =
    let z : k + suc i ≡ k + 1 + i = omega arith in
    rw z (all-upto p f (k + 1) n i (and_right (p (f k)) (all p (upto f (k + 1) n)) e) (omega arith))

all_from : {A : Type 0} (p : A → Bool) (f : ℕ → A) (n i : ℕ) → all p (from f 0 n) ≡ true → i < n → p (f i) ≡ true
all_from p f n i e h = let z : 0 + i ≡ i = omega arith in rw z at (all-upto p f 0 (n - 0) i e (omega arith))

-- the other settings
abbrev good_others : S.Settings → Bool
good_others c =
    between 1 c.interval most_interval && leb c.distance most_distance && is_leg_count c.most_legs && between 1 c.minimum most_minimum
    && leb c.amount1 most_amount && leb c.amount5 most_amount && leb c.amount10 most_amount
    && leb c.first_number most_number

good_time : (c : S.Settings) → good_settings c ≡ true → c.opening_time ≤ most_time
good_time c h = le_of c.opening_time most_time (and_right (good_others c) (leb c.opening_time most_time) h)

-- four legs at most, symbols of 21 bytes, ratios and a time that the words of a state have room for
pub record Accepted (o : Opening) : Type 0 where
  pub few : o.count ≤ 4
  pub bytes : (k : ℕ) → k < o.count → length (T.leg_at o k).symbol ≡ 21
  pub ratios : (k : ℕ) → k < o.count → (T.leg_at o k).ratio ≤ 9
  pub time : o.settings.time ≤ most_time

pub accepted : (o : Opening) → opening_refusal (opening_of o) ≡ 0 → Accepted o
unfolding opening_refusal
accepted o e =
    let ls = (opening_of o).legs in
    let n : NoneOf (opening_row (opening_of o)) = none_of (opening_row (opening_of o)) refl e in
    let formed : all (λ (l : S.Leg). good_symbol l.symbol) ls ≡ true = not_true (all (λ (l : S.Leg). good_symbol l.symbol) ls) n.1.0 in
    let ratios : good_ratios ls ≡ true = not_true (good_ratios ls) n.1.1.1.1.0 in
    let settings : good_settings (opening_of o).settings ≡ true = not_true (good_settings (opening_of o).settings) n.1.1.1.1.1.1.0 in
    record {
      few = omega (arith, from-length (T.leg_at o) 0 o.count, between_high 2 (length ls) 4 (not_true (between 2 (length ls) 4) n.0));
      bytes = λ k h. eq_of (length (T.leg_at o k).symbol) 21 (and_left _ _ (and_left _ _ (and_left _ _ (and_left _ _ (all_from (λ (l : S.Leg). good_symbol l.symbol) (T.leg_at o) o.count k formed h)))));
      ratios = λ k h. between_high 1 (T.leg_at o k).ratio 9 (all_from (λ (l : S.Leg). between 1 l.ratio 9) (T.leg_at o) o.count k (and_left _ _ (and_left _ _ ratios)) h);
      time = good_time (opening_of o).settings settings;
    }

-- ---- each part of the state

-- the bytes that are read back, one by one
symbol_is : (w s : List ℕ) (k : ℕ) → length s ≡ 21 → ((i : ℕ) → i < 21 → get_or w (L.symbols + 21 * k + i) 0 ≡ get_or s i 0) → symbol_of w k ≡ s
symbol_is w s k z h = from-same (λ i. get_or w (L.symbols + 21 * k + i) 0) (λ i. get_or s i 0) 0 21 (λ i p q. h i q) ∙ from-take 0 s 21 (omega arith) ∙ take_all 21 s (omega arith)

-- "all leg sides absent"
abbrev no_quote : Quote
no_quote = record { bid = absent; ask = absent; national_bid = 0; national_ask = 0 }

no_quotes_lem : (f : ℕ → S.Leg) (q : ℕ → Quote) (k n : ℕ) → ((i : ℕ) → k ≤ i → i < k + n → q i ≡ no_quote) → upto q k n ≡ no_quotes (upto f k n)
unfolding upto
no_quotes_lem f q k zero h = refl
no_quotes_lem f q k (suc n) h = rw (h k (omega arith) (omega arith), no_quotes_lem f q (k + 1) n (λ i a b. h i (omega arith) (omega arith)))

module _ (longs w m : List ℕ) (o : Opening) (z : Sized longs m) (y : Accepted o) (legs : (k : ℕ) → k < 4 → HasLeg w k (get_or o.legs k no_leg)) (quoted : NothingQuoted w m) where
  abbrev words : List ℕ
  words = stores (stores m (count_stores o.count)) (setting_stores o.settings)

  abbrev clocks : List ℕ
  clocks = stores longs (clock_stores o.settings)

  -- ---- what is read back, and what is as it was

  counts-rise : Rising L.count L.buy (count_stores o.count)
  counts-rise = (omega arith, omega arith, (omega arith, omega arith, (omega arith, omega arith, tt)))

  counted : All (λ s. get_or (stores m (count_stores o.count)) s.at 0 ≡ s.number) (count_stores o.count)
  counted = rising_read m L.count L.buy (count_stores o.count) (omega (arith, z.1)) counts-rise

  settings-rise : Rising L.minimum L.pending (setting_stores o.settings)
  settings-rise = (omega arith, omega arith, (omega arith, omega arith, (omega arith, omega arith, (omega arith, omega arith, (omega arith, omega arith, (omega arith, omega arith, (omega arith, omega arith, tt)))))))

  set : All (λ s. get_or words s.at 0 ≡ s.number) (setting_stores o.settings)
  set = rising_read (stores m (count_stores o.count)) L.minimum L.pending (setting_stores o.settings) (omega (arith, z.1, stores-length m (count_stores o.count))) settings-rise

  unset : Kept L.minimum L.pending (stores m (count_stores o.count)) words
  unset = rising_kept (stores m (count_stores o.count)) L.minimum L.pending (setting_stores o.settings) settings-rise

  timed : All (λ s. get_or clocks s.at 0 ≡ s.number) (clock_stores o.settings)
  timed = rising_read longs L.next 71 (clock_stores o.settings) (omega (arith, z.0)) (omega arith, omega arith, (omega arith, omega arith, (omega arith, omega arith, (omega arith, omega arith, tt))))

  -- between the two counts
  between-counts : (i : ℕ) → L.count < i → i < L.leg_counts → get_or words i 0 ≡ get_or m i 0
  between-counts i a b = unset.below i (omega arith) ∙ stores_other m (count_stores o.count) i (λ e. omega arith, (λ e. omega arith, (λ e. omega arith, tt)))

  -- behind the auction
  behind : (i : ℕ) → L.symbols ≤ i → get_or words i 0 ≡ get_or m i 0
  behind i a = unset.above i (omega arith) ∙ stores_other m (count_stores o.count) i (λ e. omega arith, (λ e. omega arith, (λ e. omega arith, tt)))

  -- ---- part by part

  count-is : leg_count words ≡ o.count
  count-is = ap (λ (x : ℕ). min x 4) (unset.below L.leg_counts (omega arith) ∙ counted.1.0) ∙ min-eq_left y.few

  leg-is : (k : ℕ) → k < o.count → leg_at words k ≡ T.leg_at o k
  leg-is k h =
      let few : k < 4 = omega (arith, y.few) in
      let g = legs k few in
      let read : (i : ℕ) → L.sides ≤ i → i < L.leg_counts → get_or words i 0 ≡ get_or w i 0 = λ i a b. between-counts i (omega arith) b ∙ quoted.kept.above i a in
      λ x. record {
        symbol = symbol_is words (T.leg_at o k).symbol k (y.bytes k h) (λ i p. behind (L.symbols + 21 * k + i) (omega arith) ∙ quoted.kept.above (L.symbols + 21 * k + i) (omega arith) ∙ g.symbol i p) x;
        side = (read (L.sides + k) (omega arith) (omega arith) ∙ g.side) x;
        ratio = (ap (λ (n : ℕ). min n 9) (read (L.ratios + k) (omega arith) (omega arith) ∙ g.ratio) ∙ min-eq_left (y.ratios k h)) x;
        mpv = (read (L.mpvs + k) (omega arith) (omega arith) ∙ g.mpv) x;
      }

  legs-are : legs_of words ≡ (opening_of o).legs
  legs-are = ap (λ (n : ℕ). from (leg_at words) 0 n) count-is ∙ from-same (leg_at words) (T.leg_at o) 0 o.count (λ k a b. leg-is k b)

  quote-is : (k : ℕ) → k < 4 → quote_at words k ≡ no_quote
  quote-is k h =
      let none : (c : ℕ) → c < 6 → get_or words (L.bids + c * 4 + k) 0 ≡ 0 = λ c p.
      let e : L.bids + c * 4 + k ≡ L.bids + (c * 4 + k) = omega arith in
      rw e (between-counts (L.bids + (c * 4 + k)) (omega arith) (omega arith) ∙ quoted.none (c * 4 + k) (omega arith)) in
      λ x. record {
        bid = record { price = none 0 (omega arith) x; size = none 1 (omega arith) x };
        ask = record { price = none 2 (omega arith) x; size = none 3 (omega arith) x };
        national_bid = none 4 (omega arith) x;
        national_ask = none 5 (omega arith) x;
      }

  quotes-are : market_of words ≡ no_quotes (opening_of o).legs
  quotes-are = ap (λ (n : ℕ). from (quote_at words) 0 n) count-is ∙ no_quotes_lem (T.leg_at o) (quote_at words) 0 (o.count - 0) (λ k a b. quote-is k (omega (arith, y.few)))

  nothing-open : entries_of clocks words ≡ []
  nothing-open = from_end (entry_at clocks words) 0 (open_count words) (omega (arith, unset.below L.count (omega arith) ∙ counted.0))

  no_auction : auction_of clocks words ≡ none
  no_auction =
      ap (λ (x : ℕ). pick (flag x) (pending (pending_of clocks words)) none)
      (unset.above L.pending (omega arith) ∙ counted.1.1.0)

  pub start_is : state_of clocks words ≡ start_of (opening_of o)
  start_is =
      λ x. state_from
      (record {
        legs = legs-are x;
        settings = record {
          interval = set.1.0 x;
          distance = set.1.1.0 x;
          most_legs = set.1.1.1.0 x;
          amount1 = set.1.1.1.1.0 x;
          amount5 = set.1.1.1.1.1.0 x;
          amount10 = set.1.1.1.1.1.1.0 x;
          minimum = set.0 x;
          first_number = timed.1.1.0 x;
          opening_time = timed.1.1.1.0 x;
        };
      })
      (quotes-are x)
      (nothing-open x)
      (no_auction x)
      (record { next = timed.0 x; time = (ap (λ (n : ℕ). min n most_time) timed.1.0 ∙ min-eq_left y.time) x })
