use Rattle.average.proofs.SumLaws.{units-mine, units-others}
use mathlib.Core.Path.{sym, ◌∙◌}
use Rattle.records.specs.Records.{record_at}
use Rattle.average.proofs.units_named.Goals as goal

pub returns-then-order_at-order : goal.returns-then-order_at-order
returns-then-order_at-order c = let a = c.args in c.units_at.ensures ∙ sym (units-mine a.order (record_at a.list.now a.j) (sym c.order_at.ensures ∙ c.if-order_at-order.true))

pub returns : goal.returns
returns c = let a = c.args in sym (units-others a.order (record_at a.list.now a.j) (λ e. c.if-order_at-order.false (c.order_at.ensures ∙ e)))
