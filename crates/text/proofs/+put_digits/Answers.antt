use native.Mathlib.Omega.{arith}
use Rattle.text.proofs.DigitLaws.{digits-one, digits_more, one-length, more_length}
use Rattle.text.proofs.WroteLaws.{join}
use Rattle.text.proofs.+put_digits.Goals as goal

pub put_digit-requires : goal.put_digit-requires
put_digit-requires t c = let e = one-length c.args.n (omega arith) in (omega arith, omega arith)

pub returns-then-n-lt10 : goal.returns-then-n-lt10
returns-then-n-lt10 t c = (rw (digits-one c.args.n (omega arith)) c.put_digit.ensures)

pub put_digits-end-requires : goal.put_digits-end-requires
put_digits-end-requires t c = let e = more_length c.args.n (omega arith) in omega arith

pub put_digit-requires-2 : goal.put_digit-requires-2
put_digit-requires-2 t c =
    let e = more_length c.args.n (omega arith) in
    (omega (arith, c.put_digits-end.ensures.end), omega arith)

pub returns : goal.returns
returns t c =
    (rw (digits_more c.args.n (omega arith)) (join c.put_digits-end.ensures c.put_digit-2.ensures))
