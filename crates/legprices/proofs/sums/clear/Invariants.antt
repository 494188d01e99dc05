use Prim.Native.Nat.{◌≤◌}
use lib.Dec.{eqb}
use Rattle.legprices.specs.Sums.{table_words}
use Rattle.legprices.proofs.TableLaws.{Going}
use Rattle.legprices.proofs.sums.clear.Given as goal

abbrev pub invariant-loop-k : goal.invariant-loop-k
invariant-loop-k l = (1 ≤ l.k) × (l.k ≤ table_words) × Going table_words l.base l.k l.initial.bits l.bits (λ s. eqb s 0)

abbrev pub decreases-loop-k : goal.decreases-loop-k
decreases-loop-k l = l.k
