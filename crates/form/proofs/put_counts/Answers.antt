use native.Mathlib.Omega.{arith}
use Rattle.text.proofs.WroteLaws.{join}
use Rattle.form.proofs.put_counts.Goals as goal

pub returns : goal.returns
returns c =
    ((join c.put_part-end.ensures.0 (join c.put_half-end.ensures.0 (join c.put_part-end-2.ensures.0 c.put_half.ensures.0))), omega (arith, c.put_part-end.ensures.1, c.put_half-end.ensures.1, c.put_part-end-2.ensures.1, c.put_half.ensures.1), omega (arith, c.put_part-end.ensures.2, c.put_half-end.ensures.2, c.put_part-end-2.ensures.2, c.put_half.ensures.2))
