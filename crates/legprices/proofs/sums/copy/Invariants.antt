use Prim.Native.Nat.{◌≤◌}
use Rattle.legprices.specs.Sums.{table_words, stands}
use Rattle.legprices.proofs.TableLaws.{Going}
use Rattle.legprices.proofs.sums.copy.Given as goal

abbrev pub invariant-loop-k : goal.invariant-loop-k
invariant-loop-k l = (l.k ≤ table_words) × Going table_words 0 l.k l.initial.bits l.bits (stands l.initial.bits table_words)

abbrev pub decreases-loop-k : goal.decreases-loop-k
decreases-loop-k l = l.k
