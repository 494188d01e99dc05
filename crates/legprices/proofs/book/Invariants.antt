use Prim.Native.Nat.{◌+◌, ◌-◌, ◌≤◌}
use Rattle.legprices.specs.Going.{Held}
use Rattle.legprices.proofs.PassLaws.{Booking}
use Rattle.legprices.proofs.book.Given as goal

abbrev pub invariant-loop-j : goal.invariant-loop-j
invariant-loop-j l =
    (l.at ≤ l.j) × (l.j ≤ l.end + (l.at - l.end)) × Held l.words l.buy l.p l.r × Booking l.words l.initial.list l.at l.end l.buy l.p l.list l.j

abbrev pub decreases-loop-j : goal.decreases-loop-j
decreases-loop-j l = l.end - l.j
