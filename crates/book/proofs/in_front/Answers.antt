use mathlib.Core.Path.{refl}
use native.Mathlib.Omega.{arith}
use Rattle.state.specs.View.{entry_at}
use Rattle.book.proofs.ScanLaws.{seen_step, seen_end}
use Rattle.book.proofs.in_front.Invariants.{stands}
use Rattle.book.proofs.in_front.Goals as goal

pub loop-k-init : goal.loop-k-init
loop-k-init c = (omega arith, c.open_count-m.ensures, λ longs. refl)

pub loop-k-preserved : goal.loop-k-preserved
loop-k-preserved c =
    let a = c.args in
    let v = c.loop-k.invariant in
    (omega arith, v.1, λ longs. seen_step (stands a.buy a.price) (entry_at longs a.words.now) c.loop-k.k _ c.loop-k.seen (v.2 longs) (omega arith) c.is_standing-seen.ensures)

pub returns : goal.returns
returns c longs o b p =
    let a = c.args in
    let v = c.loop-k.invariant in
    rw (b, p, ← v.1, seen_end (stands a.buy a.price) (entry_at longs a.words.now) c.loop-k.k _ c.loop-k.seen (v.2 longs) (omega arith))
