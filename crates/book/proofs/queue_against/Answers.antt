use mathlib.Core.Path.{refl}
use native.Mathlib.Omega.{arith}
use Rattle.rules.specs.Book.{is_queued}
use Rattle.state.specs.View.{entry_at}
use Rattle.book.specs.Questions.{is_across, is_unbeaten}
use Rattle.book.proofs.ScanLaws.{seen_step, seen_end}
use Rattle.book.proofs.queue_against.Goals as goal

pub loop-k-init : goal.loop-k-init
loop-k-init c = (omega arith, c.open_count-m.ensures, λ longs. (refl, refl, refl))

pub loop-k-preserved : goal.loop-k-preserved
loop-k-preserved c =
    let a = c.args in
    let k = c.loop-k.k in
    let m = c.open_count-m.result in
    let x = c.loop-k.a in
    let new = c.put_against-a.ensures in (
      omega arith,
      c.loop-k.invariant.1,
      λ longs.
          let f = entry_at longs a.words.now in
          let v = c.loop-k.invariant.2 longs in (
            rw new.0 (seen_step (λ e. is_queued e.stage) f k m x.there v.0 (omega arith) refl),
            rw new.1 (seen_step (is_across a.buy) f k m x.other v.1 (omega arith) refl),
            rw new.2 (seen_step (is_unbeaten a.buy a.price) f k m x.unbeaten v.2 (omega arith) refl),
          ),
    )

pub returns : goal.returns
returns c longs =
    let f = entry_at longs c.args.words.now in
    let v = c.loop-k.invariant.2 longs in
    rw (← c.loop-k.invariant.1) (seen_end _ f c.loop-k.k _ _ v.0 (omega arith), seen_end _ f c.loop-k.k _ _ v.1 (omega arith), seen_end _ f c.loop-k.k _ _ v.2 (omega arith))
