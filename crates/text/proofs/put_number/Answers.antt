use native.Mathlib.Omega.{arith}
use Rattle.text.proofs.DigitLaws.{digits-short}
use Rattle.text.proofs.put_number.Goals as goal

pub put_digits-requires : goal.put_digits-requires
put_digits-requires c =
    let e = digits-short c.args.n c.ranges.n.fits in
    omega arith

pub returns : goal.returns
returns c =
    let e = digits-short c.args.n c.ranges.n.fits in
    (c.put_digits.ensures, omega (arith, c.put_digits.ensures.end))
