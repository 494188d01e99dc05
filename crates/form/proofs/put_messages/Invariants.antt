use mathlib.Core.Path.{◌≡◌}
use Prim.Native.Nat.{◌+◌, ◌-◌, ◌*◌, ◌≤◌}
use lib.ListN.{length, drop}
use lib.Seq.{sets}
use Rattle.rules.specs.Spelling.{meant_from, messages_form}
use Rattle.form.proofs.put_messages.Given as goal

abbrev pub invariant-loop-i : goal.invariant-loop-i
invariant-loop-i l =
    (l.i ≤ l.count) × (l.end ≡ l.at + 36 * l.i) × (length l.out ≡ length l.initial.out)
    × (sets l.out l.end (messages_form (meant_from (l.count - l.i) (drop (l.from + 36 * l.i) l.tape))) ≡ sets l.initial.out l.at (messages_form (meant_from l.count (drop l.from l.tape))))

abbrev pub decreases-loop-i : goal.decreases-loop-i
decreases-loop-i l = l.count - l.i
