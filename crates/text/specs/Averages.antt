-- The average of an order at its first record.
use Rattle.std.specs.Prelude.{List, ℕ}
use Rattle.rules.specs.Average.{OrderAverage, averages_of}
use Rattle.types.specs.View.{from}
use Rattle.records.specs.Records.{record_at}
use Rattle.average.specs.Sums.{first_records, new_id}

-- that of the order of the record at a place, where no record before it names that order
abbrev pub averages_at : List ℕ → ℕ → ℕ → List OrderAverage
averages_at l n j = averages_of (first_records l n) (new_id (record_at l j).order (from (record_at l) 0 j))
