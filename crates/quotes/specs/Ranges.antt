-- The local bid and ask of a leg, before or after the legs gave units.
use Rattle.std.specs.Prelude.{Option, None, Some, Bool, false, ℕ, ◌*◌, ltb}
use Rattle.rules.specs.Basics.{pick}
use Rattle.rules.specs.Strategy.{Leg}
use Rattle.rules.specs.Prices.{Quote, uses_ask, lower_quote}
use Rattle.rules.specs.LegPrices.{Range, range_of}
use Rattle.quotes.specs.declared.Range.{Range as Read}

-- a leg's quote, lowered by the units that a buyer or a seller took, if there are such
abbrev pub quote_now : Bool → Option ℕ → Leg → Quote → Quote
quote_now buy None l q = q
quote_now buy (Some taken) l q = lower_quote (uses_ask buy l) (l.ratio * taken) q

-- a range, by value
abbrev pub range_in : Read → Range
range_in r = record { plus = r.plus; ratio = r.ratio; bid = r.bid; ask = r.ask }

-- that of leg k, and nothing beyond the fourth
abbrev pub range_now : ℕ → Bool → Option ℕ → Leg → Quote → Range
range_now k buy taken l q = pick (ltb k 4) (range_of l (quote_now buy taken l q)) (record { plus = false; ratio = 0; bid = 0; ask = 0 })
