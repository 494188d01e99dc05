use mathlib.Core.Path.{ap}
use mathlib.Core.Bool.{not}
use Rattle.opening.proofs.strategy.holds.Goals as goal

pub returns : goal.returns
returns c = (c.same_root.ensures, ap not c.same_symbol.ensures, c.near.ensures)
