use mathlib.Core.Path.{refl}
use Rattle.types.specs.View.{message_of}
use Rattle.engine.proofs.AnswerLaws.{accepted-count, accepted-is}
use borrow.Author.Rules.{rules}
use Rattle.engine.proofs.accepted.Goals as goal

pub outcome_of-outcome-requires : goal.outcome_of-outcome-requires
outcome_of-outcome-requires c =
    let a = c.args in
    (accepted-count a.longs.now c.take.new.longs a.words.now _ _ _ _ _ _ _ _ _ (message_of a.m) (c.take.ensures a.words.now) c.take_in-act.ensures c.watch.ensures c.follow-count.ensures (search rules)).1

pub returns : goal.returns
returns c =
    let a = c.args in
    accepted-is a.longs.now c.take.new.longs a.words.now _ _ _ _ _ _ _ _ _ (message_of a.m) (c.take.ensures a.words.now) c.take_in-act.ensures c.watch.ensures c.follow-count.ensures _ (search rules) refl c.outcome_of-outcome.ensures
