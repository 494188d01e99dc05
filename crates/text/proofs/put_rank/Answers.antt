use native.Mathlib.Omega.{arith}
use Rattle.text.proofs.WroteLaws.{join}
use Rattle.text.proofs.put_rank.Goals as goal

pub returns : goal.returns
returns c =
    let b = c.put_byte-at.ensures in
    (rw (← c.letter_of.ensures) (join b.0 c.put_byte.ensures.0), omega arith)
