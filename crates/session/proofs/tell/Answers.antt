use native.Mathlib.Omega.{arith}
use Rattle.types.specs.View.{message_of}
use Rattle.session.proofs.LineLaws.{message_told}
use Rattle.session.proofs.tell.Goals as goal

pub returns : goal.returns
returns c =
    let a = c.args in
    message_told a.position (message_of a.m) a.longs.now a.words.now a.list.now a.out.now a.at _ _ _ _ _ _ _ c.step-a.result (omega arith, omega arith) c.requires c.step-a.ensures c.add_records-behind.ensures c.put_outcome.ensures
