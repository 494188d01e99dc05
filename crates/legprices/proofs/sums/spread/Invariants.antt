use Prim.Native.Nat.{◌≤◌, ◌<◌}
use Rattle.legprices.specs.Sums.{stands}
use Rattle.legprices.specs.Tables.{moved}
use Rattle.legprices.proofs.TableLaws.{Going}
use Rattle.legprices.proofs.sums.spread.Given as goal

abbrev pub invariant-loop-k : goal.invariant-loop-k
invariant-loop-k l = (l.q < l.k) × (l.k ≤ l.words) × Going l.words l.base l.k l.initial.bits l.bits (moved (stands l.initial.bits l.base) l.a)

abbrev pub decreases-loop-k : goal.decreases-loop-k
decreases-loop-k l = l.k
