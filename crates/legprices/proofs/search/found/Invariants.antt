use mathlib.Core.Path.{◌≡◌}
use Prim.Native.Nat.{◌-◌, ◌≤◌}
use lib.ListN.{length, take}
use Rattle.types.specs.View.{from}
use Rattle.legprices.specs.Sums.{spans_from}
use Rattle.legprices.specs.Ranges.{range_at}
use Rattle.legprices.specs.Found.{found, greatest, behind}
use Rattle.legprices.proofs.search.found.Given as goal

abbrev pub invariant-loop-i : goal.invariant-loop-i
invariant-loop-i l = (l.i ≤ l.legs.count) × (length l.prices ≡ 4) × (l.rest ≡ greatest (spans_from l.legs l.i))
    × (behind (take l.i l.prices) (found (from (range_at l.legs) l.i l.legs.count) l.s) ≡ found (from (range_at l.legs) 0 l.legs.count) l.sum)

abbrev pub decreases-loop-i : goal.decreases-loop-i
decreases-loop-i l = l.legs.count - l.i
