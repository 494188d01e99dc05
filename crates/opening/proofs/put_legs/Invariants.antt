-- The legs behind are stored.
use Prim.Native.Nat.{ℕ, ◌-◌, ◌≤◌, ◌<◌}
use lib.ListN.{get_or}
use Rattle.types.specs.View.{no_leg}
use Rattle.state.specs.Layout.{WordsSized}
use Rattle.opening.specs.Stored.{HasLeg}
use Rattle.opening.proofs.put_legs.Given as goal

abbrev pub invariant-loop-k : goal.invariant-loop-k
invariant-loop-k l = (l.k ≤ 4) × WordsSized l.words × ((i : ℕ) → i < l.k → HasLeg l.words i (get_or l.o.legs i no_leg))

abbrev pub decreases-loop-k : goal.decreases-loop-k
decreases-loop-k l = 4 - l.k
