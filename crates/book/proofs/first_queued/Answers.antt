use mathlib.Core.Path.{◌≡◌, sym, ◌∙◌}
use Prim.Native.Nat.{◌+◌, ◌-◌}
use native.Mathlib.Omega.{arith}
use Rattle.rules.specs.Book.{only, by_price}
use Rattle.types.proofs.TableLaws.{from_end}
use Rattle.state.specs.View.{entry_at}
use Rattle.book.proofs.ScanLaws.{front-hit, front-miss}
use Rattle.book.proofs.first_queued.Goals as goal

pub loop-k-init : goal.loop-k-init
unfolding only by_price
loop-k-init c =
    let m = c.open_count-k.result in
    (omega arith, c.open_count-k.ensures, λ longs. rw (from_end (entry_at longs c.args.words.now) m m (omega arith)))

pub loop-k-preserved-then-is_queued : goal.loop-k-preserved-then-is_queued
loop-k-preserved-then-is_queued c =
    let w = c.args.words.now in
    let v = c.loop-k.invariant in
    let k = c.loop-k.k - 1 in
    let q : k + 1 ≡ c.loop-k.k = omega arith in (
      omega arith,
      v.1,
      λ longs.
          rw c.put_front.ensures (rw (q, ← v.2 longs) at (front-hit (entry_at longs w) k c.open_count-k.result (omega arith) (sym c.is_queued.ensures ∙ c.if-is_queued.true))),
    )

pub loop-k-preserved : goal.loop-k-preserved
loop-k-preserved c =
    let w = c.args.words.now in
    let v = c.loop-k.invariant in
    let k = c.loop-k.k - 1 in
    let q : k + 1 ≡ c.loop-k.k = omega arith in
    (omega arith, v.1, λ longs. rw (q, ← v.2 longs) at (front-miss (entry_at longs w) k c.open_count-k.result (omega arith) (sym c.is_queued.ensures ∙ c.if-is_queued.false)))

pub returns : goal.returns
returns c longs =
    let z : c.loop-k.k ≡ 0 = omega arith in
    rw (← c.loop-k.invariant.1, ← z) (c.loop-k.invariant.2 longs)
