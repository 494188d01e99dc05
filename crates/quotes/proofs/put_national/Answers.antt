use mathlib.Core.Path.{ap, ◌∙◌}
use native.Mathlib.Omega.{arith}
use Rattle.rules.specs.Step.{national_quote}
use Rattle.types.specs.View.{quote_of, national_of}
use Rattle.quotes.proofs.QuoteLaws.{one-changed, none-changed}
use Rattle.quotes.proofs.put_national.Goals as goal

pub returns-then-k-leg_count : goal.returns-then-k-leg_count
returns-then-k-leg_count c =
    let a = c.args in
    let f = national_quote (national_of a.q) in
    one-changed f a.q.leg (quote_of c.with_national.result) a.words.now c.put_quote.new.words (c.with_national.ensures ∙ ap f c.quote_at.ensures) c.put_quote.ensures

pub returns-else-k-leg_count : goal.returns-else-k-leg_count
returns-else-k-leg_count c =
    let a = c.args in
    none-changed (national_quote (national_of a.q)) a.q.leg a.words.now (omega arith)
