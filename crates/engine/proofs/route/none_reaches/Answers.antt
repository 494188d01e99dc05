use mathlib.Core.Path.{◌≡◌, refl, ap, ◌∙◌}
use mathlib.Core.Bool.{◌&&◌, not}
use Prim.Native.Nat.{◌+◌}
use native.Mathlib.Omega.{arith}
use lib.ListN.{get_or}
use Rattle.rules.specs.Prices.{Derived}
use Rattle.rules.specs.Book.{any, is_live}
use Rattle.rules.specs.Execution.{legs_pass, ready}
use Rattle.types.specs.View.{stage_of, derived_of}
use Rattle.state.specs.Layout as L
use Rattle.state.specs.View.{flag, entry_at, entries_of, state_of}
use Rattle.book.proofs.ScanLaws.{seen_step, seen_end}
use Rattle.execution.specs.Reach.{at_or_through}
use Rattle.engine.proofs.RouteLaws.{contra_is}
use Rattle.engine.proofs.route.none_reaches.Goals as goal

pub loop-k-init : goal.loop-k-init
loop-k-init c = (omega arith, c.open_count-m.ensures, λ longs. refl)

pub loop-k-preserved : goal.loop-k-preserved
loop-k-preserved c =
    let w = c.args.words.now in
    let v = c.loop-k.invariant in
    let k = c.loop-k.k in (
      omega arith,
      v.1,
      λ longs.
          seen_step (ready legs_pass (state_of longs w)) (entry_at longs w) k _ c.loop-k.seen (v.2 longs) (omega arith)
          (c.reaches-seen.ensures ∙ ap (λ (d : Derived). is_live (stage_of (get_or w (L.stages + k) 0)) && at_or_through (flag (get_or w (L.buys + k) 0)) (get_or w (L.prices + k) 0) d)
          (contra_is (state_of longs w) (derived_of c.derived-ask.result) (derived_of c.derived-bid.result) (c.derived-ask.ensures.0 longs) (c.derived-bid.ensures.0 longs) (flag (get_or w (L.buys + k) 0)))),
    )

pub returns : goal.returns
returns c longs =
    let w = c.args.words.now in
    let v = c.loop-k.invariant in
    let e : c.loop-k.seen ≡ any (ready legs_pass (state_of longs w)) (entries_of longs w) = rw (← v.1) (seen_end (ready legs_pass (state_of longs w)) (entry_at longs w) c.loop-k.k _ _ (v.2 longs) (omega arith)) in
    ap not e
