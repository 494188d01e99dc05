-- The leg prices of a message's records in a list.
use Rattle.std.specs.Prelude.{List, ℕ, min}
use Rattle.rules.specs.Refusals.{least_room}
use Rattle.rules.specs.LegPrices.{LegPrices}
use Rattle.types.specs.View.{from}
use Rattle.records.specs.Records.{prices_at}

-- those of its first n records, of which a message has at most 2,000
abbrev pub first_prices : List ℕ → ℕ → List LegPrices
first_prices l n = from (prices_at l) 0 (min n least_room)
