use mathlib.Core.Path.{ap}
use mathlib.Core.List.{◌∷◌}
use lib.IntN.{ℤ}
use mir.Syntax.{w64}
use mir.Facts.{to_z-of_z}
use borrow.Author.Rules.{rules}
use Rattle.text.specs.Text.{signed_digits}
use Rattle.text.proofs.WroteLaws.{join, same, whole}
use Rattle.text.proofs.put_fill.Goals as goal

pub returns : goal.returns
returns c =
    let e = to_z-of_z {w = w64} {z = c.args.f.price} (search rules) in
    let p = same (ap (λ (z : ℤ). 32 ∷ signed_digits z) e) c.put_signed-at.ensures.0 in
    whole
    (join c.put_number-at.ensures.0
    (join c.put_next-at.ensures.0
    (join c.put_rank-at.ensures.0 (join c.put_contra-at.ensures.0 (join p (join c.put_next-at-2.ensures.0 c.put_byte.ensures.0))))))
    (search rules) (search rules)
