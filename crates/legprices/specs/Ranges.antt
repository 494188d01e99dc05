-- The ranges of prices of the legs, in arrays.
use Rattle.std.specs.Prelude.{List, ℕ, ◌+◌, get_or}
use Rattle.rules.specs.LegPrices.{Range}
use Rattle.types.specs.View.{from}
use Rattle.state.specs.View.{flag}
use Rattle.legprices.specs.declared.Ranges.{Ranges}

-- the range of the leg at a place: from its bid so many cents up
abbrev pub range_at : Ranges → ℕ → Range
range_at r k =
    record { plus = flag (get_or r.plus k 0); ratio = get_or r.ratios k 0; bid = get_or r.bids k 0; ask = get_or r.bids k 0 + get_or r.widths k 0 }

-- those of all legs
abbrev pub ranges_in : Ranges → List Range
ranges_in r = from (range_at r) 0 r.count
