use mathlib.Core.Path.{◌≡◌}
use Prim.Native.Nat.{◌+◌, ◌-◌, ◌≤◌, ◌<◌}
use Rattle.types.specs.View.{from}
use Rattle.records.specs.Records.{record_at}
use Rattle.average.specs.Parts.{whole}
use Rattle.average.specs.Sums.{paid_for}
use Rattle.average.proofs.sum_of.Given as goal

abbrev pub invariant-loop-i : goal.invariant-loop-i
invariant-loop-i l = (l.i ≤ l.n) × (l.total.remainder < l.units) × (whole l.units l.total + paid_for l.order (from (record_at l.list) l.i l.n) ≡ paid_for l.order (from (record_at l.list) 0 l.n))

abbrev pub decreases-loop-i : goal.decreases-loop-i
decreases-loop-i l = l.n - l.i
