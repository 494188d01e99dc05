use mathlib.Core.List.{[], ◌∷◌}
use Rattle.types.specs.View.{upto}
use Rattle.text.proofs.WroteLaws.{same}
use Rattle.form.proofs.put_four.Goals as goal

pub returns : goal.returns
unfolding upto
returns c =
    let e = c.full.ensures in
    let P = c.put_part.ensures in
    (same (λ i. e i ∷ e i ∷ e i ∷ e i ∷ []) P.0, P.1, P.2)
