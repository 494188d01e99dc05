use mathlib.Core.Path.{sym, ◌∙◌}
use Rattle.text.proofs.AverageLaws.{not_first, first_is, no_average, same-averages}
use Rattle.text.proofs.add_first.Goals as goal

pub returns-then-is_first : goal.returns-then-is_first
returns-then-is_first c =
    let a = c.args in
    same-averages _ _ _ _ _ _ (first_is a.list.now a.n a.j _ (sym c.is_first.ensures ∙ c.if-is_first.true) c.order_at.ensures) c.add_order.ensures

pub returns : goal.returns
returns c =
    let a = c.args in
    no_average _ _ _ _ (not_first a.list.now a.n a.j (sym c.is_first.ensures ∙ c.if-is_first.false)) c.min.ensures
