use Rattle.types.specs.View.{message_of}
use Rattle.engine.proofs.AnswerLaws.{unfit}
use Rattle.engine.proofs.step.Goals as goal

pub returns-in_default : goal.returns-in_default
returns-in_default c =
    let a = c.args in
    unfit a.longs.now a.words.now a.list.now (message_of a.m) a.room _ (λ s. c.in_default.ensures.cases s.0) c.refused.ensures.0 c.refused.ensures.1

pub returns-in_default-as_mut_array : goal.returns-in_default-as_mut_array
returns-in_default-as_mut_array c =
    let a = c.args in
    let r = c.refused-in_default-as_mut_array.ensures in
    rw c.in-Some.ensures.cases.same (unfit a.longs.now a.words.now a.list.now (message_of a.m) a.room _ (λ s. c.in_default-as_mut_array.ensures.cases s.1) r.0 r.1)
