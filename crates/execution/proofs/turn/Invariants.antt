use mathlib.Core.Path.{◌≡◌}
use mathlib.Core.List.{List}
use Prim.Native.Nat.{ℕ, ◌+◌, ◌-◌, ◌≤◌}
use lib.ListN.{length, take}
use Rattle.execution.specs.Slots.{offers_in}
use Rattle.execution.specs.Walk.{no_tier}
use Rattle.execution.proofs.GrantLaws.{Walked}
use Rattle.execution.proofs.turn.Given as goal

abbrev pub invariant-loop-rest : goal.invariant-loop-rest
invariant-loop-rest l = (length l.gave ≡ 66) × (length l.list ≡ length l.initial.list) × (l.b ≤ no_tier) × (l.rest ≤ l.o.units)
    × ((longs : List ℕ) → Walked l.o.number l.o.id l.o.units l.b l.rest (offers_in longs l.words l.o.legs l.slots.tiers l.slots.units l.slots.count) (take l.slots.count l.gave) l.initial.list l.at l.list l.w)

abbrev pub decreases-loop-rest : goal.decreases-loop-rest
decreases-loop-rest l = no_tier + 1 - l.b
