use Prim.Native.Nat.{◌+◌, ◌-◌, ◌*◌, ◌≤◌}
use lib.ListN.{length, take}
use Rattle.text.specs.Text.{spaced}
use Rattle.text.specs.Buffer.{Wrote}
use Rattle.text.proofs.put_numbers.Given as goal

abbrev pub invariant-loop-i : goal.invariant-loop-i
invariant-loop-i l = (l.i ≤ length l.numbers) × (l.at ≤ l.start + 21 * l.i) × Wrote (spaced (take l.i l.numbers)) l.start l.initial.out l.at l.out

abbrev pub decreases-loop-i : goal.decreases-loop-i
decreases-loop-i l = length l.numbers - l.i
