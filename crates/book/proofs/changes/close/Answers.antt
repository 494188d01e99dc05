use Rattle.book.proofs.CloseLaws.{closed_by}
use Rattle.book.proofs.changes.close.Goals as goal

pub returns : goal.returns
returns c =
    let a = c.args in
    closed_by a.longs.now a.words.now c.compact.new.longs c.compact.new.words c.release.new.words c.orders-keep.result c.orders-keep.ensures c.compact.ensures c.release.ensures.0 c.release.ensures.1
