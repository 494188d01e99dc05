use mathlib.Core.Path.{refl}
use native.Mathlib.Omega.{arith}
use Rattle.legprices.proofs.PassLaws.{begun, held_none, booking-start, booking-step, booking-end}
use Rattle.legprices.proofs.book.Goals as goal

pub loop-j-init : goal.loop-j-init
loop-j-init c =
    let a = c.args in
    (omega arith, omega arith, held_none a.words.now a.buy _ refl refl, booking-start a.words.now a.list.now a.at a.end a.buy begun refl)

pub loop-j-preserved : goal.loop-j-preserved
loop-j-preserved c =
    let a = c.args in
    let v = c.loop-j.invariant in
    let r = c.book_one-p.ensures in
    (omega arith, omega (arith, c.loop-j-test.true), r.0, booking-step a.words.now a.list.now a.at a.end a.buy c.loop-j.p c.book_one-p.result c.loop-j.list c.book_one-p.new.list c.loop-j.j v.0 c.loop-j-test.true v.3 r.1)

pub returns : goal.returns
returns c =
    let a = c.args in
    let v = c.loop-j.invariant in
    booking-end a.words.now a.list.now a.at a.end a.buy c.loop-j.p c.loop-j.list c.loop-j.j (omega arith) v.1 v.3
