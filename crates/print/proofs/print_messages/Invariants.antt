use mathlib.Core.Path.{◌≡◌}
use Prim.Native.Nat.{◌+◌, ◌-◌, ◌≤◌}
use lib.ListN.{length}
use Rattle.state.specs.View.{state_of}
use Rattle.output.specs.Counted.{counted}
use Rattle.session.proofs.RunLaws.{left_text}
use Rattle.print.proofs.print_messages.Given as goal

abbrev pub invariant-loop-p : goal.invariant-loop-p
invariant-loop-p l =
    (l.p.at ≤ 128000)
    × (counted (l.total + (l.p.at + length (left_text l.tape l.count l.p.position l.p.next (state_of l.longs l.words)))) ≡ counted (l.initial.p.at + length (left_text l.tape l.count l.initial.p.position l.initial.p.next (state_of l.initial.longs l.initial.words))))

abbrev pub decreases-loop-p : goal.decreases-loop-p
decreases-loop-p l = l.count - l.p.position
