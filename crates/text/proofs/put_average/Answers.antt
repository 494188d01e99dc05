use Rattle.text.proofs.WroteLaws.{join, same, whole}
use Rattle.text.specs.Text.{signed_digits}
use mir.Facts.{to_z-of_z}
use mir.Syntax.{w64}
use lib.IntN.{ℤ}
use mathlib.Core.List.{◌∷◌}
use mathlib.Core.Path.{ap}
use borrow.Author.Rules.{rules}
use Rattle.text.proofs.put_average.Goals as goal

pub returns : goal.returns
returns c =
    let e = to_z-of_z {w = w64} {z = c.args.quotient} (search rules) in
    let q = same (ap (λ (z : ℤ). 32 ∷ signed_digits z) e) c.put_signed-at.ensures.0 in
    whole (join c.put_word-at.ensures (join c.put_next-at.ensures.0 (join q (join c.put_next-at-2.ensures.0 c.put_byte.ensures.0)))) (search rules) (search rules)
