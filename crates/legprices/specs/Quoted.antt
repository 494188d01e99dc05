-- The quotes of the legs as a turn goes on, those of the state lowered by what the legs gave; and what is told of their ranges.
use Rattle.std.specs.Prelude.{◌≡◌, Option, None, Some, Bool, ◌&&◌, not, List, ℕ, ◌+◌, leb, ltb}
use Rattle.rules.specs.Basics.{pick}
use Rattle.rules.specs.Prices.{most_cents, Quote, lower}
use Rattle.rules.specs.LegPrices.{Range, ranges_of, most_wide, search, unpriced, leg_prices}
use Rattle.state.specs.View.{legs_of, market_of}
use Rattle.legprices.specs.declared.Ranges.{Ranges}
use Rattle.legprices.specs.Sums.{Bounded}
use Rattle.legprices.specs.Ranges.{ranges_in}

-- the quotes, lowered by the units that a buyer or a seller took, if there are such
abbrev pub quotes_now : List ℕ → Bool → Option ℕ → List Quote
quotes_now w buy None = market_of w
quotes_now w buy (Some taken) = lower buy taken (legs_of w) (market_of w)

-- the ranges of the legs then
abbrev pub ranges_now : List ℕ → Bool → Option ℕ → List Range
ranges_now w buy taken = ranges_of (legs_of w) (quotes_now w buy taken)

-- the price of the side that a buyer or a seller uses
abbrev pub price_used : Bool → Range → ℕ
price_used buy g = pick (pick buy g.plus (not g.plus)) g.ask g.bid

-- there is a bid, and the ask is not below it and not more than 50 cents above it
abbrev pub is_near : ℕ → ℕ → Bool
is_near bid ask = ltb 0 bid && leb bid ask && leb ask (bid + most_wide)

-- the ranges of the legs, where all are near: then leg prices are what is found in them, and else there are none
abbrev pub Ranged : List ℕ → Bool → Option ℕ → Option Ranges → Type 0
Ranged w buy taken None = (price : ℕ) → unpriced ≡ leg_prices (ranges_now w buy taken) price
Ranged w buy taken (Some r) = Bounded r × ((price : ℕ) → search (ranges_in r) most_cents price ≡ leg_prices (ranges_now w buy taken) price)
