use mathlib.Core.Path.{◌≡◌}
use Prim.Native.Nat.{◌+◌, ◌-◌, ◌≤◌}
use lib.ListN.{length, get_or}
use lib.Seq.{sets}
use Rattle.types.specs.View.{upto}
use Rattle.form.proofs.put_part.Given as goal

abbrev pub invariant-loop-i : goal.invariant-loop-i
invariant-loop-i l =
    (l.i ≤ l.size) × (l.at + l.size ≤ length l.initial.out) × (l.size ≤ length l.tape - l.from) × (length l.out ≡ length l.initial.out)
    × (sets l.out (l.at + l.i) (upto (λ k. get_or l.tape k 0) (l.from + l.i) (l.size - l.i)) ≡ sets l.initial.out l.at (upto (λ k. get_or l.tape k 0) l.from l.size))

abbrev pub decreases-loop-i : goal.decreases-loop-i
decreases-loop-i l = l.size - l.i
