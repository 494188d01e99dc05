use mathlib.Core.Path.{◌∙◌}
use Rattle.execution.proofs.offers.entry_tier.Goals as goal

pub returns : goal.returns
returns c = c.tier.ensures ∙ rw (c.from-price.ensures, c.entry_rank.ensures, c.is_set-customer.ensures)
