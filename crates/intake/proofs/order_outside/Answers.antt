use mathlib.Core.Path.{refl, sym, ap, ◌∙◌}
use Rattle.rules.specs.State.{State, with_auction}
use Rattle.rules.specs.Auction.{auction_of}
use Rattle.rules.specs.Step.{with_new}
use Rattle.state.specs.View.{entry_of, state_of}
use Rattle.intake.proofs.ArrivalLaws.{outside-begins, outside-held}
use Rattle.intake.proofs.order_outside.Goals as goal

pub returns-then-asks : goal.returns-then-asks
returns-then-asks c =
    let a = c.args in
    let l = a.longs.now in
    let w = a.words.now in
    let s = state_of l w in
    let o = entry_of a.e in
    outside-begins s _ a.wish c.asks.result o (c.asks.ensures l o (sym c.is_set-buy.ensures) refl refl) c.if-asks.true
    (c.begin.ensures o (sym c.is_set-buy.ensures) ∙ ap (λ (x : State). with_auction x (auction_of x o x.clock.time)) (c.append.ensures ∙ ap (with_new s) c.in_queue.ensures))

pub returns : goal.returns
returns c =
    let a = c.args in
    let l = a.longs.now in
    let w = a.words.now in
    let o = entry_of a.e in
    outside-held (state_of l w) _ a.wish c.asks.result o (c.asks.ensures l o (sym c.is_set-buy.ensures) refl refl) c.if-asks.false c.append-2.ensures
