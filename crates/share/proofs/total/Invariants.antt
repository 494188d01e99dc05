use mathlib.Core.Path.{◌≡◌}
use Prim.Native.Nat.{◌+◌, ◌-◌, ◌*◌, ◌≤◌}
use lib.ListN.{take, drop}
use Rattle.rules.specs.Basics.{sum}
use Rattle.share.proofs.total.Given as goal

abbrev pub invariant-loop-i : goal.invariant-loop-i
invariant-loop-i l = (l.i ≤ l.n) × (l.n ≤ 66) × (l.t ≤ l.i * 4294967295) × (l.t + sum (drop l.i (take l.n l.sizes)) ≡ sum (take l.n l.sizes))

abbrev pub decreases-loop-i : goal.decreases-loop-i
decreases-loop-i l = l.n - l.i
