use mathlib.Core.Path.{sym, ◌∙◌}
use native.Mathlib.Omega.{arith}
use Rattle.quotes.specs.Ranges.{range_in}
use Rattle.legprices.proofs.RangeLaws.{range_known, near-says, filling-start, filling_step, filling-far, filling-end}
use Rattle.legprices.proofs.quoted.ranges.Goals as goal

pub loop-k-init : goal.loop-k-init
loop-k-init c =
    let a = c.args in
    (omega arith, c.leg_count-n.ensures, filling-start a.words.now a.buy a.taken c.leg_count-n.result c.leg_count-n.ensures (omega arith))

pub returns-then-not-is_near : goal.returns-then-not-is_near
returns-then-not-is_near c =
    let a = c.args in
    let g = range_in c.range_at-g.result in
    filling-far a.words.now a.buy a.taken c.loop-k.k g (omega arith) (range_known a.words.now a.buy a.taken c.loop-k.k g (omega arith) c.range_at-g.ensures)
    (sym c.is_near.ensures ∙ c.if-not-is_near.true)

pub overflow_sub-r : goal.overflow_sub-r
overflow_sub-r c =
    let g = c.range_at-g.result in
    (near-says g.bid g.ask (sym c.is_near.ensures ∙ c.if-not-is_near.false)).1

pub loop-k-preserved : goal.loop-k-preserved
loop-k-preserved c =
    let a = c.args in
    let v = c.loop-k.invariant in
    let g = c.range_at-g.result in (
      omega arith,
      v.1,
      filling_step a.words.now a.buy a.taken c.loop-k.r c.loop-k.k v.2 c.word_of.result g.ratio g.bid g.ask (omega arith)
          ((λ i. record { plus = c.word_of.ensures i; ratio = g.ratio; bid = g.bid; ask = g.ask })
          ∙ range_known a.words.now a.buy a.taken c.loop-k.k (range_in g) (omega arith) c.range_at-g.ensures)
          (sym c.is_near.ensures ∙ c.if-not-is_near.false),
    )

pub returns : goal.returns
returns c =
    let a = c.args in
    let v = c.loop-k.invariant in
    filling-end a.words.now a.buy a.taken c.loop-k.r c.loop-k.k v.2 (omega arith)
