use mathlib.Core.Path.{◌≡◌}
use Prim.Native.Nat.{◌/◌, ◌^◌, ◌≤◌}
use Rattle.legprices.specs.Sums.{stands}
use Rattle.legprices.specs.Tables.{Changed, smeared}
use Rattle.legprices.proofs.sums.smear.Given as goal

abbrev pub invariant-loop-k : goal.invariant-loop-k
invariant-loop-k l = (l.k ≤ 6) × (l.h ≡ l.width / 2 ^ l.k) × Changed l.words l.base l.initial.bits l.bits (smeared (stands l.initial.bits l.base) l.ratio l.h)

abbrev pub decreases-loop-k : goal.decreases-loop-k
decreases-loop-k l = l.k
