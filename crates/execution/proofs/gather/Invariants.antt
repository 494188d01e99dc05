use mathlib.Core.Path.{◌≡◌}
use mathlib.Core.List.{◌++◌}
use Prim.Native.Nat.{◌-◌, ◌≤◌}
use lib.ListN.{length, take, drop}
use Rattle.execution.specs.Walk.{sizes_of}
use Rattle.execution.proofs.gather.Given as goal

abbrev pub invariant-loop-i : goal.invariant-loop-i
invariant-loop-i l = (l.i ≤ l.slots.count) × (length l.sizes ≡ 66) × (take l.i l.sizes ++ sizes_of l.k (drop l.i (take l.slots.count l.slots.tiers)) (drop l.i (take l.slots.count l.slots.units)) ≡ sizes_of l.k (take l.slots.count l.slots.tiers) (take l.slots.count l.slots.units))

abbrev pub decreases-loop-i : goal.decreases-loop-i
decreases-loop-i l = l.slots.count - l.i
