use mathlib.Core.List.{[], ◌∷◌}
use Rattle.types.specs.View.{upto}
use Rattle.text.proofs.WroteLaws.{same}
use Rattle.form.proofs.put_front.Goals as goal

pub returns : goal.returns
unfolding upto
returns c =
    let P = c.put_part.ensures in
    (same (λ i. 255 ∷ c.full-side.ensures i ∷ c.full-account.ensures i ∷ c.full_fourth-fourth.ensures i ∷ []) P.0, P.1, P.2)
