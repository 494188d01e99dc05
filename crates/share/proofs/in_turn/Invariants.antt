use mathlib.Core.Path.{◌≡◌}
use mathlib.Core.List.{◌++◌}
use Prim.Native.Nat.{◌-◌, ◌≤◌}
use lib.ListN.{take, drop}
use Rattle.rules.specs.Share.{in_turn}
use Rattle.share.proofs.in_turn.Given as goal

abbrev pub invariant-loop-i : goal.invariant-loop-i
invariant-loop-i l = (l.i ≤ l.m) × (l.m ≤ 66) × (take l.i l.out ++ in_turn l.rest (drop l.i (take l.m l.sizes)) ≡ in_turn l.initial.rest (take l.m l.sizes))
    × (drop l.m l.out ≡ drop l.m l.initial.out)

abbrev pub decreases-loop-i : goal.decreases-loop-i
decreases-loop-i l = l.m - l.i
