use native.Mathlib.Omega.{arith}
use Rattle.tumghavi.proofs.ToldLaws.{told}
use Rattle.tumghavi.proofs.tell.Goals as goal

pub returns : goal.returns
returns c =
    told c.args.longs.now c.args.words.now _ _ _ _ _ c.answer_of-a.result _ (omega arith, omega arith) c.answer_of-a.ensures c.from.ensures
