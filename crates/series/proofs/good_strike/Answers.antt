-- Digits write 0 where each is 0.
use mathlib.Core.Path.{◌≡◌, sym}
use borrow.Author.Rules.{rules}
use lib.ListN.{length}
use Rattle.series.proofs.SymbolLaws.{strike_is}
use Rattle.series.proofs.good_strike.Goals as goal

pub returns : goal.returns
returns c =
    let s = c.args.symbol.now in
    let l : length s ≡ 21 = search rules in
    rw (c.all_within.ensures, c.all_within-2.ensures) (sym (strike_is s l))
