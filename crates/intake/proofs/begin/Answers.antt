use mathlib.Core.Path.{sym, ap, ◌∙◌}
use mathlib.Core.List.{[], ◌∷◌}
use native.Mathlib.Omega.{arith}
use Prim.Native.Nat.{◌+◌}
use Rattle.rules.specs.Prices.{Derived, derived}
use Rattle.rules.specs.State.{pending, with_auction}
use Rattle.rules.specs.Auction.{existing}
use Rattle.types.specs.View.{derived_of}
use Rattle.state.specs.View.{flag, legs_of, market_of, state_of}
use Rattle.intake.proofs.ArrivalLaws.{start_is, begun}
use Rattle.intake.proofs.begin.Goals as goal

pub returns : goal.returns
returns c = λ o eb.
    let a = c.args in
    let l = a.longs.now in
    let w = a.words.now in
    let time = c.min-time in
    let more = c.from in
    let d = c.derived-d in
    begun l w (time.result + more.result) d.result.price c.from-2.result c.word_of-2.result d.result.units (omega arith, omega arith)
    ∙ ap (with_auction (state_of l w)) (λ i.
    pending (record {
      buy = (c.word_of-2.ensures ∙ sym eb) i;
      deadline = time.ensures i + more.ensures i;
      start = (start_is c.from-2.result (derived_of d.result) (ap flag c.from-2.ensures ∙ c.word_of.ensures)
          ∙ ap (λ (x : Derived). existing (x ∷ [])) (d.ensures.0 l ∙ ap (λ x. derived x (legs_of w) (market_of w)) (sym eb))) i;
    }))
