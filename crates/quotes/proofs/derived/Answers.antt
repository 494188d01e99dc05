use Rattle.rules.specs.Prices.{derived}
use Rattle.quotes.proofs.derived.Goals as goal

pub returns : goal.returns
unfolding derived
returns c = let e = c.priced.ensures in (λ longs i. record { price = (e.0 longs).0 i; units = (e.0 longs).1 i }, e.1)
