use mathlib.Core.Path.{◌≡◌}
use Prim.Native.Nat.{◌+◌, ◌-◌, ◌≤◌, min}
use lib.ListN.{length, get_or}
use lib.Seq.{sets}
use Rattle.types.specs.View.{upto}
use Rattle.form.specs.Rows.{lessers}
use Rattle.form.proofs.put_message.Given as goal

abbrev pub invariant-loop-i : goal.invariant-loop-i
invariant-loop-i l =
    (l.i ≤ 36) × (l.at + 36 ≤ length l.out) × (l.from + 36 ≤ length l.tape) × (l.row + 36 ≤ length l.rows) × (length l.bytes ≡ 36)
    × (sets l.bytes (0 + l.i) (upto (λ k. min (get_or l.tape (l.from + k) 0) (get_or l.rows (l.row + k) 0)) (0 + l.i) (36 - l.i)) ≡ lessers 36 l.from l.tape l.row l.rows)

abbrev pub decreases-loop-i : goal.decreases-loop-i
decreases-loop-i l = 36 - l.i
