use mathlib.Core.Path.{◌≡◌}
use Prim.Native.Nat.{◌+◌, ◌-◌, ◌≤◌}
use Rattle.legprices.specs.Sums.{spans_from}
use Rattle.legprices.specs.Found.{first, fits}
use Rattle.legprices.proofs.search.first_from.Given as goal

abbrev pub invariant-loop-x : goal.invariant-loop-x
invariant-loop-x l = (l.x ≤ l.end + 1)
    × (first (l.end + 1 - l.x) l.x (fits l.plus l.ratio l.width (spans_from l.legs l.i) l.s) ≡ first (l.end + 1 - l.at) l.at (fits l.plus l.ratio l.width (spans_from l.legs l.i) l.s))

abbrev pub decreases-loop-x : goal.decreases-loop-x
decreases-loop-x l = l.end + 1 - l.x
