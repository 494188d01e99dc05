use mathlib.Core.Path.{refl}
use Rattle.state.specs.View.{state_of}
use Rattle.intake.proofs.ArrivalLaws.{clock_is}
use Rattle.intake.proofs.clock_in.Goals as goal

pub returns-then-is_reached : goal.returns-then-is_reached
returns-then-is_reached c =
    let a = c.args in
    clock_is (state_of a.longs.now a.words.now) c.is_reached.result c.min-time.result _ c.min-time.ensures c.is_reached.ensures (rw c.if-is_reached.true refl)

pub returns : goal.returns
returns c =
    let a = c.args in
    clock_is (state_of a.longs.now a.words.now) c.is_reached.result c.min-time.result _ c.min-time.ensures c.is_reached.ensures (rw c.if-is_reached.false refl)
