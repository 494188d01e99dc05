-- Document 02, M-106, "Leg prices for complex trades": a price per leg for each fill record.
use Rattle.std.specs.Prelude.{Bool, true, false, ◌&&◌, List, [], ◌∷◌, ℕ, zero, suc, ◌+◌, ◌-◌, ◌*◌, eqb, leb, ltb}
use Rattle.rules.specs.Basics.{pick}
use Rattle.rules.specs.Strategy.{Leg, is_b}
use Rattle.rules.specs.Prices.{most_cents, biased, Quote, used, lower}
use Rattle.rules.specs.Turn.{Contra, legs, entry, Fill}

-- the prices of a record's legs, or "No leg prices"
pub data LegPrices : Type 0 where
  unpriced : LegPrices
  priced : List ℕ → LegPrices

-- a leg's local bid and ask, 0 for absent, with what a cent of it counts for a buyer of the strategy
pub record Range : Type 0 where
  pub plus : Bool
  pub ratio : ℕ
  pub bid : ℕ
  pub ask : ℕ

-- of one leg
abbrev pub range_of : Leg → Quote → Range
range_of l q = record { plus = is_b l.side; ratio = l.ratio; bid = q.bid.price; ask = q.ask.price }

-- of each leg
abbrev pub ranges_of : List Leg → List Quote → List Range
ranges_of [] qs = []
ranges_of (l ∷ ls) [] = []
ranges_of (l ∷ ls) (q ∷ qs) = range_of l q ∷ ranges_of ls qs

-- ---- "a price per leg, inside that leg's local bid and ask .., ends included, whose net is exactly the fill's price"

-- price p before those of the later legs
abbrev pub before : ℕ → LegPrices → LegPrices
before p unpriced = unpriced
before p (priced ps) = priced (p ∷ ps)

-- the first, or else the second
abbrev pub or_else : LegPrices → LegPrices → LegPrices
or_else unpriced r = r
or_else (priced ps) r = priced ps

-- "the lowest price": the first of n prices from p on with which the later legs can do
abbrev pub tries : ℕ → ℕ → (ℕ → LegPrices) → LegPrices
tries zero p f = unpriced
tries (suc n) p f = let later = tries n (suc p) f in or_else (before p (f p)) later

-- what a price adds to what is paid, or to what is got
abbrev pub part : Bool → Range → ℕ → ℕ
part paid g p = pick g.plus (pick paid (g.ratio * p) 0) (pick paid 0 (g.ratio * p))

-- "Among several, the lowest price on leg 0 is taken, then on leg 1, and so on": the net is exact where 40,000,000 and what is paid are the biased price and what is got
unfoldable pub search : List Range → ℕ → ℕ → LegPrices
search [] paid got = pick (eqb paid got) (priced []) unpriced
search (g ∷ gs) paid got = tries (suc g.ask - g.bid) g.bid (λ p. search gs (paid + part true g p) (got + part false g p))

-- how far a leg's ask may be above its bid, in cents
abbrev pub most_wide : ℕ
most_wide = 50

-- "a leg lacks a side, a leg's ask is more than 50 cents above its bid": neither is so
abbrev pub are_near : List Range → Bool
are_near [] = true
are_near (g ∷ gs) = ltb 0 g.bid && ltb 0 g.ask && leb g.ask (g.bid + most_wide) && are_near gs

-- the leg prices of a fill against an order or a response, at a biased price
unfoldable pub leg_prices : List Range → ℕ → LegPrices
leg_prices gs price = pick (are_near gs) (search gs most_cents price) unpriced

-- ---- the records of a turn

-- "Fills against legs show the prices taken": that of each leg side used
abbrev pub prices_taken : Bool → List Leg → List Quote → List ℕ
prices_taken buy [] qs = []
prices_taken buy (l ∷ ls) [] = []
prices_taken buy (l ∷ ls) (q ∷ qs) = (used buy l q).price ∷ prices_taken buy ls qs

-- the leg prices of a record with this contra and this biased price, by the quotes "as they stood just before the fill"
abbrev pub leg_prices_of : Bool → List Leg → List Quote → Contra → ℕ → LegPrices
leg_prices_of buy ls qs legs price = priced (prices_taken buy ls qs)
leg_prices_of buy ls qs (entry i) price = leg_prices (ranges_of ls qs) price

-- the quotes after it: only a fill against the legs lowers them
abbrev pub quotes_after : Bool → List Leg → List Quote → Contra → ℕ → List Quote
quotes_after buy ls qs legs n = lower buy n ls qs
quotes_after buy ls qs (entry i) n = qs

-- the leg prices of a buyer's or a seller's records in their sequence, from the quotes as its turn begins
unfoldable pub booked : Bool → List Leg → List Quote → List Fill → List LegPrices
booked buy ls qs [] = []
booked buy ls qs (f ∷ fs) = leg_prices_of buy ls qs f.contra (biased f.price) ∷ booked buy ls (quotes_after buy ls qs f.contra f.units) fs
