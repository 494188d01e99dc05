use mathlib.Core.Path.{◌≡◌}
use Prim.Native.Nat.{ℕ}
use native.Mathlib.Omega.{arith}
use Rattle.rules.specs.Book.{Entry, count, is_response}
use Rattle.types.specs.View.{from}
use Rattle.types.proofs.TableLaws.{from-length}
use Rattle.state.specs.View.{entry_at}
use Rattle.book.proofs.StoreLaws.{counted-flag}
use Rattle.book.proofs.ScanLaws.{count-step, count-end, orders_left}
use Rattle.book.proofs.open_counts.Goals as goal

pub loop-k-init : goal.loop-k-init
loop-k-init c = (omega arith, c.open_count-m.ensures, omega arith, λ longs. omega arith)

pub loop-k-preserved : goal.loop-k-preserved
loop-k-preserved c =
    let w = c.args.words.now in
    let k = c.loop-k.k in
    let m = c.open_count-m.result in
    let one = counted-flag c.is_response.result in (
      omega arith,
      c.loop-k.invariant.1,
      omega arith,
      λ longs. omega (arith, c.from-responses.ensures, one.0, rw (← c.is_response.ensures) at (count-step (entry_at longs w) k m (λ e. is_response e.stage) (omega arith)), c.loop-k.invariant.3 longs),
    )

pub returns : goal.returns
returns c longs =
    let f : ℕ → Entry = entry_at longs c.args.words.now in
    let m = c.open_count-m.result in
    let e : c.loop-k.responses ≡ count (λ e. is_response e.stage) (from f 0 m) = omega (arith, count-end f c.loop-k.k m (λ e. is_response e.stage) (omega arith), c.loop-k.invariant.3 longs) in
    rw (← c.loop-k.invariant.1) (omega (arith, e, orders_left (from f 0 m), from-length f 0 m), e)
