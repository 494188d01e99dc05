use mathlib.Core.Path.{refl}
use Rattle.types.specs.View.{local_of}
use Rattle.state.specs.View.{state_of}
use Rattle.intake.proofs.ArrivalLaws.{local-is}
use Rattle.intake.proofs.local_in.Goals as goal

pub returns-then-ends_by_legs : goal.returns-then-ends_by_legs
returns-then-ends_by_legs c =
    let a = c.args in
    let l = a.longs.now in
    local-is (state_of l a.words.now) _ (local_of a.q) c.ends_by_legs.result _ (c.put_local.ensures l) (c.ends_by_legs.ensures l) (rw c.if-ends_by_legs.true refl)

pub returns : goal.returns
returns c =
    let a = c.args in
    let l = a.longs.now in
    local-is (state_of l a.words.now) _ (local_of a.q) c.ends_by_legs.result _ (c.put_local.ensures l) (c.ends_by_legs.ensures l) (rw c.if-ends_by_legs.false refl)
