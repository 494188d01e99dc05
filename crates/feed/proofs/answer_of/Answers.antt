use mathlib.Core.Path.{refl}
use Rattle.types.specs.View.{message_of}
use Rattle.tape.specs.View.{fields_of}
use Rattle.feed.proofs.ReplyLaws.{known-answer, unknown-answer}
use Rattle.feed.proofs.answer_of.Goals as goal

pub returns-then-is_kind : goal.returns-then-is_kind
returns-then-is_kind c =
    let a = c.args in
    known-answer a.longs.now a.words.now a.list.now (fields_of a.f) a.room c.step.result (message_of c.message_from-m.result) _ _ _ (rw (← c.is_kind.ensures) c.if-is_kind.true) c.message_from-m.ensures c.step.ensures

pub returns : goal.returns
returns c =
    let a = c.args in
    unknown-answer a.longs.now a.words.now a.list.now (fields_of a.f) a.room _ (rw (← c.is_kind.ensures) c.if-is_kind.false) refl refl
