use native.Mathlib.Omega.{arith}
use Rattle.text.proofs.WroteLaws.{join}
use Rattle.text.proofs.put_next.Goals as goal

pub returns : goal.returns
returns c =
    let b = c.put_byte-at.ensures.0 in
    (join b c.put_number.ensures.0, omega (arith, b.end))
