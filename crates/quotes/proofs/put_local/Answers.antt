use mathlib.Core.Path.{ap, ◌∙◌}
use native.Mathlib.Omega.{arith}
use Rattle.rules.specs.Step.{local_quote}
use Rattle.types.specs.View.{quote_of, local_of}
use Rattle.quotes.proofs.QuoteLaws.{one-changed, none-changed}
use Rattle.quotes.proofs.put_local.Goals as goal

pub returns-then-k-leg_count : goal.returns-then-k-leg_count
returns-then-k-leg_count c =
    let a = c.args in
    let f = local_quote (local_of a.q) in
    one-changed f a.q.leg (quote_of c.with_local.result) a.words.now c.put_quote.new.words (c.with_local.ensures ∙ ap f c.quote_at.ensures) c.put_quote.ensures

pub returns-else-k-leg_count : goal.returns-else-k-leg_count
returns-else-k-leg_count c =
    let a = c.args in
    none-changed (local_quote (local_of a.q)) a.q.leg a.words.now (omega arith)
