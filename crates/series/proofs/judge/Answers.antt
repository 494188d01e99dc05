-- The calendar's answer is the weekday rule's; a good symbol's month is 1 or more.
use mathlib.Core.Path.{sym, ap, ◌∙◌}
use mathlib.Core.Bool.{Bool, ◌&&◌}
use native.Mathlib.Omega.{arith}
use Rattle.rules.specs.Series.{on_third_friday}
use Rattle.series.proofs.SymbolLaws.{month_least}
use Rattle.series.proofs.judge.Goals as goal

pub returns-then-not-good_symbol : goal.returns-then-not-good_symbol
returns-then-not-good_symbol c =
    let bad = sym c.good_symbol.ensures ∙ c.if-not-good_symbol.true in
    (sym bad, sym (ap (λ (b : Bool). b && on_third_friday c.args.symbol) bad))

pub overflow_sub-month : goal.overflow_sub-month
overflow_sub-month c =
    let good = sym c.good_symbol.ensures ∙ c.if-not-good_symbol.false in
    omega (arith, c.pair-month.ensures.0, month_least c.args.symbol good)

pub returns : goal.returns
returns c =
    let s = c.args.symbol in
    let good = sym c.good_symbol.ensures ∙ c.if-not-good_symbol.false in (
      sym good,
      c.is_third_friday.ensures
          ∙ rw (c.pair-year.ensures.0, c.pair-month.ensures.0, c.pair-day.ensures.0) (sym (ap (λ (b : Bool). b && on_third_friday s) good)),
    )
