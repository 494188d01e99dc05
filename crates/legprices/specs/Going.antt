-- A pass over records: what is kept from one to the next.
use Rattle.std.specs.Prelude.{◌≡◌, Option, None, Some, Bool, true, List, ℕ, length}
use Rattle.rules.specs.Prices.{biased, Quote}
use Rattle.rules.specs.LegPrices.{Range, leg_prices, leg_prices_of, quotes_after}
use Rattle.state.specs.View.{legs_of}
use Rattle.records.specs.Records.{record_at, prices_from, Prices}
use Rattle.legprices.specs.declared.Pass.{Pass}
use Rattle.legprices.specs.declared.Ranges.{Ranges}
use Rattle.legprices.specs.declared.Room.{Room}
use Rattle.legprices.specs.Sums.{Made}
use Rattle.legprices.specs.Quoted.{quotes_now, ranges_now, Ranged}

-- the quotes as they stand, and the ranges of the legs
abbrev pub quotes_at : List ℕ → Bool → Pass → List Quote
quotes_at w buy p = quotes_now w buy p.taken

abbrev pub ranges_at : List ℕ → Bool → Pass → List Range
ranges_at w buy p = ranges_now w buy p.taken

-- the tables are those of the legs, if all are near
abbrev pub Tabled : Option Ranges → List ℕ → Type 0
Tabled None bits = Unit {0}
Tabled (Some r) bits = Made r bits

-- the ranges and tables are those of the legs where they are fresh, and the price last looked for has the prices found
pub record Held (w : List ℕ) (buy : Bool) (p : Pass) (r : Room) : Type 0 where
  pub bits_sized : length r.bits ≡ 44
  pub prices_sized : length r.prices ≡ 4
  pub known : p.fresh ≡ true → Ranged w buy p.taken r.ranges
  pub made : p.fresh ≡ true → Tabled r.ranges r.bits
  pub last : p.fresh ≡ true → prices_from p.count r.prices ≡ leg_prices (ranges_at w buy p) p.price

-- the prices of one price are found, the quotes are as they were
pub record FoundIn (w : List ℕ) (buy : Bool) (p : Pass) (price : ℕ) (q : Pass) (r : Room) : Type 0 where
  pub held : Held w buy q r
  pub same : quotes_at w buy q ≡ quotes_at w buy p
  pub found : prices_from q.count r.prices ≡ leg_prices (ranges_at w buy p) price

-- the record at place j of a list has its leg prices, and the quotes are those after it
pub record Passed (w : List ℕ) (buy : Bool) (p r : Pass) (old new : List ℕ) (j : ℕ) : Type 0 where
  pub put : Prices old j new (leg_prices_of buy (legs_of w) (quotes_at w buy p) (record_at old j).contra (biased (record_at old j).price))
  pub after : quotes_at w buy r ≡ quotes_after buy (legs_of w) (quotes_at w buy p) (record_at old j).contra (record_at old j).units
