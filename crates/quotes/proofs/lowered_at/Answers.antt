use mathlib.Core.Path.{ap, ap₂, ◌∙◌}
use mathlib.Core.Bool.{Bool}
use Prim.Native.Nat.{ℕ, ◌*◌}
use Rattle.rules.specs.Prices.{uses_ask, lower_quote}
use Rattle.types.specs.View.{quote_of}
use Rattle.state.specs.View.{leg_at}
use Rattle.quotes.proofs.lowered_at.Goals as goal

pub returns : goal.returns
returns c =
    let a = c.args in
    let l = leg_at a.words.now a.k in
    c.lower_quote.ensures
    ∙ ap₂ (λ (b : Bool) (n : ℕ). lower_quote b n (quote_of c.quote_at.result)) c.uses_ask-side.ensures (c.times-n.ensures.0 ∙ ap (λ (x : ℕ). x * a.units) c.ratio_at.ensures)
    ∙ ap (lower_quote (uses_ask a.ask l) (l.ratio * a.units)) c.quote_at.ensures
