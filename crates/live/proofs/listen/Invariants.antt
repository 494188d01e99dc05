use Prim.Native.Nat.{◌-◌, ◌*◌, ◌≤◌, ◌<◌}
use Rattle.rules.specs.Tape.{message_bytes}
use Rattle.state.specs.View.{state_of}
use Rattle.live.specs.Lives.{Lived}
use Rattle.live.proofs.listen.Given as goal

abbrev pub invariant-loop-reads : goal.invariant-loop-reads
invariant-loop-reads l =
    (l.left < message_bytes)
    × (l.records ≤ 1820 * l.reads)
    × (l.reads ≤ 10_000_000_000_000_000)
    × Lived (state_of l.initial.longs l.initial.words) (state_of l.longs l.words) (record { records = l.records; bytes = l.bytes })

abbrev pub decreases-loop-reads : goal.decreases-loop-reads
decreases-loop-reads l = 10_000_000_000_000_000 - l.reads
