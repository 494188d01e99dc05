use mathlib.Core.Path.{◌≡◌, refl}
use Prim.Native.Nat.{◌+◌, ◌*◌}
use native.Mathlib.Omega.{arith}
use lib.ListN.{get_or, length-set}
use Rattle.state.specs.Layout as L
use Rattle.state.specs.Layout.{WordsSized}
use Rattle.state.proofs.StoreLaws.{kept_all, kept_set, done_at}
use Rattle.opening.proofs.put_symbol.Goals as goal

pub loop-i-init : goal.loop-i-init
loop-i-init c = let a = c.args in (omega arith, refl, c.requires, (omega arith), λ j h. absurd (omega arith), kept_all (L.symbols + 21 * a.k) (L.symbols + 21 * a.k + 21) a.words.now)

pub loop-i-preserved : goal.loop-i-preserved
loop-i-preserved c =
    let v = c.loop-i.invariant in
    let a = c.args in
    let i = c.loop-i.i in
    let w = c.loop-i.words in
    let b = L.symbols + 21 * a.k in
    let x = c.from.result in (
      omega arith,
      refl,
      v.2,
      simp length-set v.3,
      done_at b w i x (λ j y. y ≡ get_or a.symbol j 0) (omega arith) c.from.ensures v.4,
      kept_set b (b + 21) a.words.now w (b + i) x (omega arith) (omega arith) v.5,
    )

pub returns : goal.returns
returns c =
    let v = c.loop-i.invariant in
    record { here = λ i h. v.4 i (omega arith); kept = v.5 }
