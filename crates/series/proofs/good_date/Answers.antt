-- The month is the number that its two digits write.
use mathlib.Core.Path.{◌≡◌}
use Rattle.std.proofs.Common.{rules}
use Rattle.rules.specs.Basics.{between}
use Rattle.rules.specs.Series.{is_digit}
use Rattle.series.specs.Parts.{part}
use Rattle.series.proofs.PartLaws.{all-list}
use Rattle.series.proofs.good_date.Goals as goal

pub returns : goal.returns
returns c =
    let known : c.contains.result ≡ between 1 c.pair-month.result 12 = search rules in
    rw (all-list is_digit (part c.args.symbol.now 6 12), c.all_within.ensures, known, c.pair-month.ensures.0)
