use Rattle.types.specs.Refusals.{number_in}
use Rattle.types.specs.View.{opening_of}
use Rattle.rules.specs.Tape.{header_bytes}
use Rattle.tape.specs.View.{strategy_from}
use Rattle.tape.proofs.StrategyLaws.{reads_opening}
use Rattle.feed.proofs.OpeningLaws.{opens-same}
use Rattle.feed.proofs.open.Goals as goal

pub returns : goal.returns
returns c =
    let a = c.args in
    let o = c.strategy_from-o.result in
    opens-same a.longs.now a.words.now c.«open».new.longs c.«open».new.words (number_in c.«open».result) (opening_of o) (strategy_from header_bytes a.head.now) (reads_opening header_bytes a.head.now o c.strategy_from-o.ensures) c.«open».ensures
