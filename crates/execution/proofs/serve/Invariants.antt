use Prim.Native.Nat.{◌-◌, ◌≤◌}
use lib.ListN.{take}
use Rattle.rules.specs.Execution.{serve}
use Rattle.state.specs.Layout.{Sized}
use Rattle.execution.specs.Slots.{mode_of}
use Rattle.execution.specs.Plays.{Goes}
use Rattle.execution.proofs.serve.Given as goal

abbrev pub invariant-loop-i : goal.invariant-loop-i
invariant-loop-i l = (l.i ≤ l.end) × Sized l.longs l.words × Goes l.initial.longs l.initial.words l.initial.list l.at l.longs l.words l.list l.w (serve (mode_of l.mode) (take l.i l.ids))

abbrev pub decreases-loop-i : goal.decreases-loop-i
decreases-loop-i l = l.end - l.i
