use mathlib.Core.Path.{◌≡◌}
use Prim.Native.Nat.{◌-◌}
use lib.ListN.{length}
use Rattle.state.specs.View.{state_of}
use Rattle.feed.specs.Replies.{AreTold}
use Rattle.feed.proofs.run.Given as goal

abbrev pub invariant-loop-position : goal.invariant-loop-position
invariant-loop-position l =
    (length l.longs ≡ length l.initial.longs)
    × (length l.words ≡ length l.initial.words)
    × (length l.list ≡ length l.initial.list)
    × AreTold l.input (record { position = l.initial.position; at = l.initial.at }) l.most (state_of l.initial.longs l.initial.words) l.initial.out (state_of l.longs l.words) (record { position = l.position; at = l.at }) l.out

abbrev pub decreases-loop-position : goal.decreases-loop-position
decreases-loop-position l =
    l.count - l.position
