use native.Mathlib.Omega.{arith}
use Rattle.feed.proofs.ReplyLaws.{record_told}
use Rattle.feed.proofs.tell.Goals as goal

pub returns : goal.returns
returns c =
    let a = c.args in
    record_told a.longs.now a.words.now a.list.now a.p.now a.out.now a.at _ _ _ _ _ _ _ c.answer-a.result (omega arith, omega arith) c.requires c.answer-a.ensures c.put_outcome-behind.ensures c.add_live.ensures
