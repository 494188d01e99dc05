use Rattle.rules.specs.Print.{fill_line, legs_line}
use Rattle.types.specs.View.{fill_of, prices_of}
use Rattle.text.proofs.PriceLaws.{two_lines}
use Rattle.text.proofs.add_both.Goals as goal

pub returns : goal.returns
returns c =
    let a = c.args in
    two_lines (fill_line (fill_of a.f)) (legs_line (prices_of a.f)) _ _ _ _ _ _ c.add_fill-behind.ensures c.add_legs.ensures
