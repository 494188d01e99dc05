use native.Mathlib.Omega.{arith}
use Rattle.state.specs.View.{state_of}
use Rattle.session.proofs.RunLaws.{left_all, all_told}
use Rattle.tumghavi.proofs.put_messages.Goals as goal

pub returns : goal.returns
returns c =
    let a = c.args in
    rw (left_all a.tape.now a.b.count a.b.at (state_of a.longs.now a.words.now)) at (all_told _ _ _ _ _ _ _ _ _ c.run-last.ensures (omega arith) _ _ (c.put_last.ensures c.run-last.new.longs).0)
