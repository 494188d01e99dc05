use Rattle.book.proofs.SettleLaws.{settled-by}
use Rattle.book.proofs.changes.settle.Goals as goal

pub returns : goal.returns
returns c =
    let a = c.args in
    settled-by a.longs.now a.words.now c.spend.new.words c.restage.new.words a.gave.now a.id a.took a.stage c.spend.ensures.0 c.restage.ensures.0 c.spend.ensures.1 c.restage.ensures.1
    c.drop_filled.new.longs c.drop_filled.new.words c.drop_filled.ensures
