use mathlib.Core.Path.{ap, ap₂, sym, ◌∙◌}
use Prim.Native.Nat.{ℕ}
use Rattle.rules.specs.Filter.{amount_for, beyond}
use Rattle.state.specs.View.{market_of, settings_of, strategy_of}
use Rattle.quotes.proofs.LegLaws.{not-filtered, filtered-by}
use Rattle.quotes.proofs.filtered.Goals as goal

pub returns-then-all_national : goal.returns-then-all_national
returns-then-all_national c longs =
    let a = c.args in
    let w = a.words.now in
    c.is_beyond.ensures ∙ ap₂ (λ (n p : ℕ). beyond a.buy n p c.priced-contra.result.price) c.times-most.ensures.0 c.from.ensures
    ∙ filtered-by (strategy_of longs w) (market_of w) a.buy a.limit c.priced-contra.result.price c.amount_for-amount.result c.smallest_ratio.result
    (sym (c.all_national.ensures longs) ∙ c.if-all_national.true) (c.priced-contra.ensures.0 longs).0
    (c.amount_for-amount.ensures longs ∙ ap (amount_for (settings_of longs w)) (c.smallest.ensures longs)) (c.smallest_ratio.ensures.0 longs)

pub returns-else-all_national : goal.returns-else-all_national
returns-else-all_national c longs =
    let a = c.args in
    let w = a.words.now in
    not-filtered (strategy_of longs w) (market_of w) a.buy a.limit (sym (c.all_national.ensures longs) ∙ c.if-all_national.false)
