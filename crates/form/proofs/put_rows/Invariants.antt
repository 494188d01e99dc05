use mathlib.Core.Path.{◌≡◌}
use Prim.Native.Nat.{◌+◌, ◌-◌, ◌*◌, ◌≤◌}
use lib.ListN.{length}
use lib.Seq.{sets}
use Rattle.form.specs.Rows.{rows_from}
use Rattle.form.proofs.put_rows.Given as goal

abbrev pub invariant-loop-kind : goal.invariant-loop-kind
invariant-loop-kind l =
    (1 ≤ l.kind) × (l.kind ≤ 9) × (l.end + 36 ≡ 36 * l.kind) × (288 ≤ length l.initial.rows) × (length l.rows ≡ length l.initial.rows)
    × (sets l.rows l.end (rows_from (9 - l.kind) l.kind) ≡ sets l.initial.rows 0 (rows_from 8 1))

abbrev pub decreases-loop-kind : goal.decreases-loop-kind
decreases-loop-kind l = 9 - l.kind
