use mathlib.Core.Path.{◌≡◌}
use Prim.Native.Nat.{◌+◌, ◌-◌, ◌*◌, ◌≤◌}
use Rattle.types.specs.View.{from}
use Rattle.legprices.specs.Sums.{spans_from}
use Rattle.legprices.specs.Ranges.{range_at}
use Rattle.legprices.specs.Found.{least_paid, most_got, greatest}
use Rattle.legprices.proofs.search.ends_of.Given as goal

abbrev pub invariant-loop-i : goal.invariant-loop-i
invariant-loop-i l = (l.i ≤ l.legs.count)
    × (l.paid ≤ l.i * 90000000000) × (l.paid + least_paid (from (range_at l.legs) l.i l.legs.count) ≡ least_paid (from (range_at l.legs) 0 l.legs.count))
    × (l.got ≤ l.i * 90000000000) × (l.got + most_got (from (range_at l.legs) l.i l.legs.count) ≡ most_got (from (range_at l.legs) 0 l.legs.count))
    × (l.most ≤ l.i * 90000000000) × (l.most + greatest (spans_from l.legs l.i) ≡ greatest (spans_from l.legs 0))

abbrev pub decreases-loop-i : goal.decreases-loop-i
decreases-loop-i l = l.legs.count - l.i
