-- A number that may pass 64 bits, by its quotient and remainder by some units; and what an average stands for in the rules.
use Rattle.std.specs.Prelude.{◌≡◌, Option, Some, None, List, ℕ, ◌+◌, ◌*◌, ◌≤◌, ◌<◌}
use Rattle.rules.specs.Average as A
use Rattle.average.specs.Sums.{first_records}
use Rattle.average.specs.declared.Parts.{Parts}
use Rattle.average.specs.declared.Average.{Average}

-- the units of 2,000 records, at most
abbrev pub most_units : ℕ
most_units = 8_589_934_590_000

-- units by which a number is taken apart
abbrev pub Divides : ℕ → Type 0
Divides units = (0 < units) × (units ≤ most_units)

-- the quotient of a number fits 64 bits
abbrev pub Fits : ℕ → ℕ → Type 0
Fits units x = x < 18_446_744_073_709_551_616 * units

-- the number of some parts
abbrev pub whole : ℕ → Parts → ℕ
whole units d = d.quotient * units + d.remainder

-- these are the parts of a number
pub record Whole (units x : ℕ) (d : Parts) : Type 0 where
  pub is : whole units d ≡ x
  pub below : d.remainder < units

-- an average, as the rules have it
abbrev pub average_of : Option Average → A.Average
average_of None = A.none
average_of (Some a) = A.exact a.quotient a.remainder

-- that of an order over the first n records of a list
abbrev pub IsAverage : List ℕ → ℕ → ℕ → Option Average → Type 0
IsAverage l n i r = average_of r ≡ A.average_for i (first_records l n)
