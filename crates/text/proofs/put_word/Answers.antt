use native.Mathlib.Omega.{arith}
use Rattle.text.proofs.SetsLaws.{part-set}
use Rattle.text.proofs.put_word.Goals as goal

pub returns : goal.returns
returns c =
    let a = c.args in
    record { end = omega arith; holds = part-set a.out.now a.word.now _ a.at _ (omega arith) c.copy_from_slice.ensures.after (omega arith) }
