use mathlib.Core.Path.{◌≡◌}
use Prim.Native.Nat.{◌+◌, ◌-◌, ◌*◌, ◌≤◌}
use lib.ListN.{take, drop}
use Rattle.rules.specs.Basics.{sum}
use Rattle.execution.specs.Walk.{sizes_of}
use Rattle.execution.proofs.total_at.Given as goal

abbrev pub invariant-loop-i : goal.invariant-loop-i
invariant-loop-i l = (l.i ≤ l.slots.count) × (l.sum ≤ l.i * 4294967295)
    × (l.sum + sum (sizes_of l.k (drop l.i (take l.slots.count l.slots.tiers)) (drop l.i (take l.slots.count l.slots.units))) ≡ sum (sizes_of l.k (take l.slots.count l.slots.tiers) (take l.slots.count l.slots.units)))

abbrev pub decreases-loop-i : goal.decreases-loop-i
decreases-loop-i l = l.slots.count - l.i
