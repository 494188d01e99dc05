use mathlib.Core.Path.{sym, ◌∙◌}
use mathlib.Core.Bool.{Bool}
use mathlib.Core.List.{List}
use Prim.Native.Nat.{◌+◌}
use native.Mathlib.Omega.{arith}
use Rattle.rules.specs.Strategy.{Leg}
use Rattle.rules.specs.Prices.{Quote}
use Rattle.rules.specs.Filter.{all_national}
use Rattle.state.specs.View.{quote_at}
use Rattle.quotes.proofs.LegLaws.{quotes_from, next-leg, no-leg, no-bid, no-ask, both-sides}
use Rattle.quotes.proofs.all_national.Goals as goal

abbrev pub of_quotes : List Leg → List Quote → Bool
of_quotes ls qs = all_national qs

pub returns-then-words-k-eq0 : goal.returns-then-words-k-eq0
returns-then-words-k-eq0 c longs =
    let w = c.args.words.now in
    let k = c.loop-k.k in
    no-bid (quote_at w k) (quotes_from w (k + 1)) c.if-words-k-eq0.true ∙ sym (next-leg of_quotes w k (omega arith)) ∙ c.loop-k.invariant.2

pub returns-then-words-k-eq0-2 : goal.returns-then-words-k-eq0-2
returns-then-words-k-eq0-2 c longs =
    let w = c.args.words.now in
    let k = c.loop-k.k in
    no-ask (quote_at w k) (quotes_from w (k + 1)) c.if-words-k-eq0-2.true ∙ sym (next-leg of_quotes w k (omega arith)) ∙ c.loop-k.invariant.2

pub loop-k-preserved : goal.loop-k-preserved
loop-k-preserved c =
    let w = c.args.words.now in
    let k = c.loop-k.k in
    (omega arith, c.loop-k.invariant.1, both-sides (quote_at w k) (quotes_from w (k + 1)) c.if-words-k-eq0.false c.if-words-k-eq0-2.false ∙ sym (next-leg of_quotes w k (omega arith)) ∙ c.loop-k.invariant.2)

pub returns : goal.returns
returns c longs = sym (no-leg of_quotes c.args.words.now c.loop-k.k (omega arith)) ∙ c.loop-k.invariant.2
