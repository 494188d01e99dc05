use mathlib.Core.Path.{ap, sym, ◌∙◌}
use borrow.Author.Tests.{not-true}
use Rattle.rules.specs.Book.{better}
use Rattle.rules.specs.Auction.{initiator}
use Rattle.state.specs.View.{entries_of, state_of}
use Rattle.book.proofs.ScanLaws.{front_better, front_beats}
use Rattle.book.proofs.QueueLaws.{beats-all}
use Rattle.book.proofs.beats.Goals as goal

pub returns-then-not-a : goal.returns-then-not-a
returns-then-not-a c longs =
    let a = c.args in
    let q = c.queue_against-a.ensures longs in
    rw (q.0, q.2) (beats-all a.buy a.price (entries_of longs a.words.now) (sym q.1 ∙ not-true _ c.if-not-a.true))

pub returns-in-Some : goal.returns-in-Some
returns-in-Some c longs =
    let a = c.args in
    c.is_better.ensures ∙ ap (better a.buy a.price) c.from.ensures ∙ ap (front_better a.buy a.price) (c.in-Some.ensures longs) ∙ front_beats a.buy a.price (initiator (state_of longs a.words.now))

pub returns-in-None : goal.returns-in-None
returns-in-None c longs =
    let a = c.args in
    ap (front_better a.buy a.price) (c.in-None.ensures longs) ∙ front_beats a.buy a.price (initiator (state_of longs a.words.now))
