use native.Mathlib.Omega.{arith}
use Rattle.rules.specs.Book.{is_queued}
use Rattle.state.specs.View.{entry_at}
use Rattle.book.proofs.ScanLaws.{units-step, units-end}
use Rattle.book.proofs.queue_units.Goals as goal

pub loop-k-init : goal.loop-k-init
loop-k-init c = (omega arith, c.open_count-m.ensures, omega arith, λ longs. omega arith)

pub loop-k-preserved : goal.loop-k-preserved
loop-k-preserved c =
    let w = c.args.words.now in
    let k = c.loop-k.k in
    let m = c.open_count-m.result in (
      omega arith,
      c.loop-k.invariant.1,
      omega arith,
      λ longs. omega (arith, c.units_queued-sum.ensures.0, units-step (entry_at longs w) k m (λ e. is_queued e.stage) (omega arith), c.loop-k.invariant.3 longs),
    )

pub returns : goal.returns
returns c longs =
    let w = c.args.words.now in
    rw (← c.loop-k.invariant.1) (omega (arith, units-end (entry_at longs w) c.loop-k.k c.open_count-m.result (λ e. is_queued e.stage) (omega arith), c.loop-k.invariant.3 longs))
