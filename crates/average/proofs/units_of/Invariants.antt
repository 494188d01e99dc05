use mathlib.Core.Path.{◌≡◌}
use Prim.Native.Nat.{◌+◌, ◌-◌, ◌*◌, ◌≤◌}
use Rattle.rules.specs.Average.{units_for}
use Rattle.types.specs.View.{from}
use Rattle.records.specs.Records.{record_at}
use Rattle.average.proofs.units_of.Given as goal

abbrev pub invariant-loop-i : goal.invariant-loop-i
invariant-loop-i l = (l.i ≤ l.n) × (l.units ≤ l.i * 4_294_967_295) × (l.units + units_for l.order (from (record_at l.list) l.i l.n) ≡ units_for l.order (from (record_at l.list) 0 l.n))

abbrev pub decreases-loop-i : goal.decreases-loop-i
decreases-loop-i l = l.n - l.i
