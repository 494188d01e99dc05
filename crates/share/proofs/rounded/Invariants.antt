use mathlib.Core.Path.{◌≡◌}
use mathlib.Core.List.{◌++◌}
use Prim.Native.Nat.{◌-◌, ◌≤◌, ◌<◌}
use lib.ListN.{take, drop}
use Rattle.rules.specs.Basics.{sum}
use Rattle.rules.specs.Share.{parts, gots, lefts}
use Rattle.share.proofs.rounded.Given as goal

abbrev pub invariant-loop-i : goal.invariant-loop-i
invariant-loop-i l = (l.i ≤ l.n) × (l.n ≤ 66) × (0 < l.all) × (l.all ≡ sum (take l.n l.sizes))
    × (take l.i l.out ++ gots (parts l.amount l.all (drop l.i (take l.n l.sizes))) ≡ gots (parts l.amount l.all (take l.n l.sizes)))
    × (take l.i l.rest ++ lefts (parts l.amount l.all (drop l.i (take l.n l.sizes))) ≡ lefts (parts l.amount l.all (take l.n l.sizes)))
    × (drop l.n l.out ≡ drop l.n l.initial.out)

abbrev pub decreases-loop-i : goal.decreases-loop-i
decreases-loop-i l = l.n - l.i
