use mathlib.Core.Path.{refl}
use Rattle.types.specs.View.{upto}
use Rattle.text.proofs.WroteLaws.{same}
use Rattle.form.proofs.put_half.Goals as goal

pub returns : goal.returns
unfolding upto
returns c = let P = c.put_part.ensures in (same (rw c.to_le_bytes.ensures refl) P.0, P.1, P.2)
