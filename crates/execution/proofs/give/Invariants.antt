use mathlib.Core.Path.{◌≡◌}
use mathlib.Core.List.{List, ◌++◌}
use Prim.Native.Nat.{ℕ, ◌-◌, ◌≤◌}
use lib.ListN.{length, take, drop}
use Rattle.rules.specs.Turn.{fills_at}
use Rattle.records.specs.Records.{Adds}
use Rattle.execution.specs.Slots.{offers_in}
use Rattle.execution.specs.Walk.{over}
use Rattle.execution.proofs.give.Given as goal

abbrev pub invariant-loop-i : goal.invariant-loop-i
invariant-loop-i l = (l.i ≤ l.slots.count) × (length l.gave ≡ 66)
    × (take l.i l.gave ++ over l.k (drop l.i (take l.slots.count l.slots.tiers)) (drop l.i (take l.slots.count l.new)) (drop l.i (take l.slots.count l.gave)) ≡ over l.k (take l.slots.count l.slots.tiers) (take l.slots.count l.new) (take l.slots.count l.initial.gave))
    × ((longs units : List ℕ) → Adds l.initial.list l.at l.list l.w (fills_at l.o.number l.o.id l.k (offers_in longs l.words l.o.legs l.slots.tiers units l.i) (take l.i l.gave)))

abbrev pub decreases-loop-i : goal.decreases-loop-i
decreases-loop-i l = l.slots.count - l.i
