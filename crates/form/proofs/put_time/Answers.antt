use native.Mathlib.Omega.{arith}
use Rattle.text.proofs.WroteLaws.{join}
use Rattle.form.proofs.put_time.Goals as goal

pub returns : goal.returns
returns c =
    ((join c.put_four-end.ensures.0 c.put_four.ensures.0), omega (arith, c.put_four-end.ensures.1, c.put_four.ensures.1), omega (arith, c.put_four-end.ensures.2, c.put_four.ensures.2))
