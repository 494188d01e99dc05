use mathlib.Core.Path.{refl}
use mathlib.Core.Bool.{◌&&◌}
use native.Mathlib.Omega.{arith}
use Rattle.rules.specs.Book.{is_response}
use Rattle.rules.specs.Refusals.{is_order, of_participant}
use Rattle.state.specs.View.{entry_at}
use Rattle.book.proofs.ScanLaws.{seen_step, seen_end}
use Rattle.book.proofs.standing_of.Goals as goal

pub loop-k-init : goal.loop-k-init
loop-k-init c = (omega arith, c.open_count-m.ensures, λ longs. (refl, refl))

pub loop-k-preserved : goal.loop-k-preserved
loop-k-preserved c =
    let a = c.args in
    let k = c.loop-k.k in
    let m = c.open_count-m.result in
    let s = c.loop-k.s in
    let own = c.is_of-own.ensures in
    let new = c.noted-s.ensures in (
      omega arith,
      c.loop-k.invariant.1,
      λ longs.
          let v = c.loop-k.invariant.2 longs in (
            rw (new.0, own) (seen_step (λ e. is_order e && of_participant a.id a.participant e) (entry_at longs a.words.now) k m s.order v.0 (omega arith) refl),
            rw (new.1, own) (seen_step (λ e. is_response e.stage && of_participant a.id a.participant e) (entry_at longs a.words.now) k m s.response v.1 (omega arith) refl),
          ),
    )

pub returns : goal.returns
returns c longs =
    let f = entry_at longs c.args.words.now in
    let v = c.loop-k.invariant.2 longs in
    rw (← c.loop-k.invariant.1) (seen_end _ f c.loop-k.k _ _ v.0 (omega arith), seen_end _ f c.loop-k.k _ _ v.1 (omega arith))
