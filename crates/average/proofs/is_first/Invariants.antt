use mathlib.Core.Path.{◌≡◌}
use mathlib.Core.Bool.{false}
use Prim.Native.Nat.{◌≤◌}
use Rattle.types.specs.View.{from}
use Rattle.records.specs.Records.{record_at}
use Rattle.average.specs.Sums.{named}
use Rattle.average.proofs.is_first.Given as goal

abbrev pub invariant-loop-i : goal.invariant-loop-i
invariant-loop-i l = (l.i ≤ l.j) × (named l.order (from (record_at l.list) l.i l.j) ≡ false)

abbrev pub decreases-loop-i : goal.decreases-loop-i
decreases-loop-i l = l.i
