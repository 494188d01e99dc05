-- What of a leg a contra price uses, and what legs can come to.
use Rattle.std.specs.Prelude.{◌≡◌, Bool, List, ℕ, ◌+◌, ◌*◌, ◌≤◌}
use Rattle.rules.specs.Basics.{pick}
use Rattle.rules.specs.Strategy.{Leg, is_b, most_ratio}
use Rattle.rules.specs.Prices.{most_cents, Side, Quote, used, national_used, units_shown}
use Rattle.rules.specs.Filter.{LegPrice}
use Rattle.state.specs.View.{leg_at, quote_at}
use Rattle.quotes.specs.declared.Part.{Part}
use Rattle.quotes.specs.declared.LegPrice.{LegPrice as Priced}
use Rattle.quotes.specs.declared.Side.{Side as Shown}

-- it holds of leg k and its quote
abbrev pub OfLeg : List ℕ → ℕ → (Leg → Quote → Type 0) → Type 0
OfLeg words k P = P (leg_at words k) (quote_at words k)

-- the price, national or local
abbrev pub price_used : Bool → Bool → Leg → Quote → ℕ
price_used national ask l q = pick national (national_used ask l q) (used ask l q).price

-- a leg's price and MPV
abbrev pub leg_price_of : Priced → LegPrice
leg_price_of p = record { price = p.price; mpv = p.mpv }

-- a side of a quote, by value
abbrev pub side_of : Shown → Side
side_of s = record { price = s.price; size = s.size }

-- the greatest word
abbrev pub most_word : ℕ
most_word = 4_294_967_295

-- the most that a ratio times a word can be
abbrev pub most_cost : ℕ
most_cost = most_ratio * most_word

-- the most that a derived price can be: four legs, all bought
abbrev pub most_derived : ℕ
most_derived = most_cents + 4 * most_cost

-- p is a leg's part in a contra price at national or local prices: what it costs where its side is B, and elsewhere, and the units that it shows
pub record IsPart (national ask : Bool) (l : Leg) (q : Quote) (p : Part) : Type 0 where
  pub bought : p.bought ≡ pick (is_b l.side) (l.ratio * price_used national ask l q) 0
  pub sold : p.sold ≡ pick (is_b l.side) 0 (l.ratio * price_used national ask l q)
  pub units : p.units ≡ units_shown ask l q
  pub most : (p.bought ≤ most_cost) × (p.sold ≤ most_cost)
