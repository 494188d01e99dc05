use mathlib.Core.Path.{◌≡◌}
use Prim.Native.Nat.{◌-◌}
use Rattle.state.specs.View.{state_of}
use Rattle.live.proofs.LiveLaws.{Goes}
use Rattle.live.proofs.answer_all.Given as goal

abbrev pub invariant-loop-p : goal.invariant-loop-p
invariant-loop-p l =
    (l.p.at ≡ 0)
    × Goes l.input (state_of l.initial.longs l.initial.words) (state_of l.longs l.words) l.p.position l.bytes

abbrev pub decreases-loop-p : goal.decreases-loop-p
decreases-loop-p l = l.count - l.p.position
