use mathlib.Core.Path.{refl}
use Prim.Native.Nat.{◌+◌, ◌-◌}
use native.Mathlib.Omega.{arith}
use Rattle.legprices.specs.Sums.{spans_from}
use Rattle.legprices.proofs.SearchLaws.{lowest-none, lowest-found}
use Rattle.legprices.proofs.search.lowest.Goals as goal

pub returns-then-high-low : goal.returns-then-high-low
returns-then-high-low c =
    let a = c.args in
    lowest-none a.plus a.ratio a.width (spans_from a.legs.now a.i) a.rest a.s c.at_least-low.result c.at_most-high.result c.requires.5 c.at_least-low.ensures c.at_most-high.ensures.1 c.at_most-high.ensures.0 c.if-high-low.true

pub returns : goal.returns
returns c =
    let a = c.args in
    lowest-found a.plus a.ratio a.width (spans_from a.legs.now a.i) a.rest a.s c.at_least-low.result c.at_most-high.result c.requires.5 c.at_least-low.ensures c.at_most-high.ensures.1 c.at_most-high.ensures.0
    (omega arith) c.either-at.result (c.either-at.result + (c.at_most-high.result - c.at_least-low.result)) c.either-at.ensures.0 refl c.first_from.result c.first_from.ensures
