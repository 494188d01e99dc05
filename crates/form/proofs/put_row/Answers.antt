use mathlib.Core.Path.{ap}
use native.Mathlib.Omega.{arith}
use Rattle.text.proofs.WroteLaws.{join, same}
use Rattle.form.specs.Rows.{row_by}
use Rattle.form.proofs.put_row.Goals as goal

pub returns : goal.returns
returns c =
    (same (ap (row_by c.args.kind) c.uses_of-u.ensures) (join c.put_front-end.ensures.0 (join c.put_three-end.ensures.0 (join c.put_three-end-2.ensures.0 c.put_time.ensures.0))), omega (arith, c.put_front-end.ensures.1, c.put_three-end.ensures.1, c.put_three-end-2.ensures.1, c.put_time.ensures.1), omega (arith, c.put_front-end.ensures.2, c.put_three-end.ensures.2, c.put_three-end-2.ensures.2, c.put_time.ensures.2))
