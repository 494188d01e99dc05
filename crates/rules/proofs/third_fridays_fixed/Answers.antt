use Rattle.rules.proofs.SeriesLaws.{third_fridays}
use Rattle.rules.proofs.third_fridays_fixed.Goals as goal

-- The formula of third Fridays: the law of SeriesLaws.

pub returns : goal.returns
returns c = third_fridays
