use Rattle.feed.proofs.ReplyLaws.{same_answer}
use Rattle.feed.proofs.answer.Goals as goal

pub returns : goal.returns
returns c =
    same_answer _ _ _ _ _ _ _ _ _ _ c.fields_of-f.ensures c.answer_of.ensures
