use Rattle.rules.specs.Average.{exact}
use mir.Facts.{to_z-of_z}
use mir.Syntax.{w64}
use lib.IntN.{ℤ}
use mathlib.Core.Path.{ap, ◌∙◌}
use Rattle.text.proofs.AverageLaws.{order_is, no_average, one_average}
use borrow.Author.Rules.{rules}
use Rattle.text.proofs.add_order.Goals as goal

pub returns-in-None : goal.returns-in-None
returns-in-None c =
    let a = c.args in
    no_average _ _ _ _ (order_is a.list.now a.n a.order _ c.in-None.ensures) c.min.ensures

pub returns-in-Some : goal.returns-in-Some
returns-in-Some c =
    let a = c.args in
    let e = to_z-of_z {w = w64} {z = c.in-Some.a.quotient} (search rules) in
    one_average _ _ _ _ _ _ (order_is a.list.now a.n a.order _ (ap (λ (z : ℤ). exact z c.in-Some.a.remainder) e ∙ c.in-Some.ensures)) c.add_average.ensures
