-- The records of a message in a list, and sums over those that name an order, as code takes them.
use Rattle.std.specs.Prelude.{Bool, false, ◌||◌, List, [], ◌∷◌, ℕ, ◌+◌, ◌*◌, min}
use Rattle.rules.specs.Basics.{pick}
use Rattle.rules.specs.Prices.{biased}
use Rattle.rules.specs.Refusals.{least_room}
use Rattle.rules.specs.Turn.{Fill}
use Rattle.rules.specs.Average.{names}
use Rattle.types.specs.View.{from}
use Rattle.records.specs.Records.{record_at}

-- the first n records of a list, of which a message has at most 2,000
abbrev pub first_records : List ℕ → ℕ → List Fill
first_records l n = from (record_at l) 0 (min n least_room)

-- some record names the order
abbrev pub named : ℕ → List Fill → Bool
named i [] = false
named i (f ∷ fs) = names i f || named i fs

-- an id, where no record names it yet
abbrev pub new_id : ℕ → List Fill → List ℕ
new_id i fs = pick (named i fs) [] (i ∷ [])

-- the units that a record gives an order
abbrev pub units_named : ℕ → Fill → ℕ
units_named i f = pick (names i f) f.units 0

-- the sum of biased price × units over the records that name an order
abbrev pub paid_for : ℕ → List Fill → ℕ
paid_for i [] = 0
paid_for i (f ∷ fs) = biased f.price * units_named i f + paid_for i fs
