use mathlib.Core.Path.{◌≡◌}
use Prim.Native.Nat.{◌-◌, ◌≤◌}
use lib.ListN.{length, take}
use Rattle.tape.proofs.LegLaws.{bytes_at}
use Rattle.tape.proofs.symbol_of.Given as goal

abbrev pub invariant-loop-i : goal.invariant-loop-i
invariant-loop-i l = (length l.s ≡ 21) × (l.i ≤ 21) × (take l.i l.s ≡ bytes_at l.i l.p)

abbrev pub decreases-loop-i : goal.decreases-loop-i
decreases-loop-i l = 21 - l.i
