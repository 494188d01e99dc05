use mathlib.Core.Path.{sym, ◌∙◌}
use native.Mathlib.Omega.{arith}
use Rattle.rules.specs.Prices.{most_cents}
use Rattle.legprices.specs.Ranges.{ranges_in}
use Rattle.legprices.proofs.FoundLaws.{search-none, search-sum}
use Rattle.legprices.proofs.SearchLaws.{ranges-ordered}
use Rattle.legprices.proofs.search.find.Goals as goal

pub returns-then-got-paid : goal.returns-then-got-paid
returns-then-got-paid c =
    let a = c.args in
    let e = c.ends_of-ends.ensures in
    (omega arith, sym (search-none (ranges_in a.legs.now) most_cents a.price c.ends_of-ends.result.paid c.ends_of-ends.result.got (ranges-ordered a.legs.now 0) e.0 e.2 c.if-got-paid.true))

pub returns : goal.returns
returns c =
    let a = c.args in
    let e = c.ends_of-ends.ensures in
    (omega arith, c.found.ensures ∙ sym (search-sum (ranges_in a.legs.now) most_cents a.price c.ends_of-ends.result.paid c.ends_of-ends.result.got (ranges-ordered a.legs.now 0) e.0 e.2 c.if-got-paid.false))
