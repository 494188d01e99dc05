use Rattle.text.proofs.AverageLaws.{records_put, no_records}
use Rattle.text.proofs.add_records.Goals as goal

pub returns-then-n-eq0 : goal.returns-then-n-eq0
returns-then-n-eq0 c = let a = c.args in no_records a.list.now a.n _ _ _ c.if-n-eq0.true c.min.ensures

pub returns : goal.returns
returns c =
    let a = c.args in
    records_put a.list.now a.n _ _ _ _ _ _ _ c.min-count.ensures c.add_fills-behind.ensures c.add_averages.ensures
