use mathlib.Core.Path.{refl, ap, sym}
use native.Mathlib.Omega.{arith}
use lib.Seq.{take_all}
use Rattle.text.specs.Text.{spaced}
use Rattle.text.proofs.WroteLaws.{join, same}
use Rattle.text.proofs.PriceLaws.{one_price}
use Rattle.text.proofs.put_numbers.Goals as goal

pub loop-i-init : goal.loop-i-init
loop-i-init c = (omega arith, omega arith, record { end = omega arith; holds = refl })

pub loop-i-preserved : goal.loop-i-preserved
loop-i-preserved c =
    let L = c.loop-i in
    let a = c.args in
    let e = c.put_next-at.ensures in
    let v = L.invariant in
    (omega arith, omega arith, same (sym (one_price a.numbers.now L.i (omega arith))) (join v.2 e.0))

pub returns : goal.returns
returns c =
    let L = c.loop-i in
    let ns = c.args.numbers.now in
    (same (ap spaced (take_all L.i ns (omega arith))) L.invariant.2, omega arith)
