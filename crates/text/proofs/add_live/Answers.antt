use Rattle.text.proofs.PriceLaws.{live_put, no_live}
use Rattle.text.proofs.add_live.Goals as goal

pub returns-then-n-eq0 : goal.returns-then-n-eq0
returns-then-n-eq0 c = let a = c.args in no_live a.list.now a.n _ _ _ c.if-n-eq0.true c.min.ensures

pub returns : goal.returns
returns c =
    let a = c.args in
    live_put a.list.now a.n _ _ _ _ _ _ _ c.min-count.ensures c.add_priced-end.ensures c.add_averages.ensures
