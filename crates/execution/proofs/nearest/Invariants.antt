use mathlib.Core.Path.{◌≡◌}
use Prim.Native.Nat.{◌-◌, ◌≤◌}
use lib.ListN.{take, drop}
use Rattle.execution.specs.Walk.{no_tier, least_from, Under}
use Rattle.execution.proofs.nearest.Given as goal

abbrev pub invariant-loop-i : goal.invariant-loop-i
invariant-loop-i l = (l.i ≤ l.slots.count) × (l.m ≤ no_tier)
    × (least_from l.b l.m (drop l.i (take l.slots.count l.slots.tiers)) (drop l.i (take l.slots.count l.slots.units)) ≡ least_from l.b no_tier (take l.slots.count l.slots.tiers) (take l.slots.count l.slots.units))
    × (Under 4294967296 (drop l.i (take l.slots.count l.slots.tiers)) → Under 4294967296 (take l.slots.count l.slots.tiers))

abbrev pub decreases-loop-i : goal.decreases-loop-i
decreases-loop-i l = l.slots.count - l.i
