use mathlib.Core.Path.{◌∙◌}
use Rattle.execution.proofs.offers.entry_units.Goals as goal

pub returns : goal.returns
returns c = c.within.ensures ∙ rw (c.from-price.ensures, c.open_units-units.ensures, c.is_set-other.ensures)
