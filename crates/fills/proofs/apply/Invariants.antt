-- The records still to be stored make of the list, at their places, what all of them make of it.
use mathlib.Core.Path.{◌≡◌}
use Prim.Native.Nat.{◌-◌}
use lib.Seq.{sets}
use Rattle.fills.specs.Fills.{written}
use Rattle.fills.proofs.AppliedLaws.{stored_in}
use Rattle.fills.proofs.apply.Given as goal

abbrev pub invariant-loop-i : goal.invariant-loop-i
invariant-loop-i l = sets l.fills l.i (stored_in l.list l.i l.a.count) ≡ written l.fn.fills (stored_in l.list 0 l.a.count)

abbrev pub decreases-loop-i : goal.decreases-loop-i
decreases-loop-i l = l.a.count - l.i
