use mathlib.Core.Path.{◌≡◌}
use Prim.Native.Nat.{◌+◌, ◌-◌, ◌≤◌, ◌<◌}
use lib.ListN.{length, take, drop}
use Rattle.rules.specs.Basics.{sum}
use Rattle.rules.specs.Share.{gots, leftover, shares}
use Rattle.share.specs.Loops.{paired}
use Rattle.share.proofs.by_size.Given as goal

abbrev pub invariant-loop-given : goal.invariant-loop-given
invariant-loop-given l = (l.given ≤ l.left) × (l.n ≤ 66) × (0 < l.n) × (length l.out ≡ 66) × (length l.rest ≡ 66) × (sum (take l.n l.out) + (l.left - l.given) ≡ l.amount)
    × (gots (leftover (l.left - l.given) (paired (take l.n l.out) (take l.n l.rest))) ≡ shares l.amount (take l.n l.sizes))
    × (drop l.n l.out ≡ drop l.n l.initial.out)

abbrev pub decreases-loop-given : goal.decreases-loop-given
decreases-loop-given l = l.left - l.given
