-- The place of the first byte that is no capital, or else 6.
use mathlib.Core.Path.{◌≡◌, ◌∙◌}
use mathlib.Core.Bool.{not}
use native.Mathlib.Omega.{arith}
use lib.ListN.{length}
use Rattle.std.proofs.Common.{rules, tests}
use Rattle.std.proofs.lemmas.Iterator.{YieldsList-from_slice}
use Rattle.std.proofs.lemmas.Iterator.Search.{position_from_yields_List}
use Rattle.std.proofs.lemmas.List.Sums.{prefix_len-le-length}
use Rattle.rules.specs.Series.{is_capital, root_of}
use Rattle.series.proofs.SymbolLaws.{or_end, capitals_in}
use Rattle.series.proofs.capitals.Goals as goal

pub returns : goal.returns
returns c =
    let root = root_of c.args.symbol.now in
    let l : length root ≡ 6 = search rules in
    let o = c.position-other.result in
    let found = position_from_yields_List (λ b. not (is_capital b)) _ _ o c.position-other.ensures.ran (YieldsList-from_slice root c.iter.ensures.rest) (λ x b q k. search (rules, tests)) in
    c.unwrap_or.ensures ∙ or_end o (capitals_in root) 6 (omega (arith, l, prefix_len-le-length (λ b. not (not (is_capital b))) root)) (rw l at found)
