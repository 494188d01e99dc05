use Prim.Native.Nat.{◌-◌, ◌≤◌}
use Rattle.sessions.proofs.main.Given as goal

abbrev pub invariant-loop-n : goal.invariant-loop-n
invariant-loop-n l = l.n ≤ 200

abbrev pub decreases-loop-n : goal.decreases-loop-n
decreases-loop-n l = 200 - l.n
