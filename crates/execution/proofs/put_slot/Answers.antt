use mathlib.Core.Path.{◌≡◌, refl}
use mathlib.Core.Bool.{true}
use Prim.Native.Nat.{◌+◌, ◌-◌}
use native.Mathlib.Omega.{arith}
use borrow.Author.Tests.{lt-ltb, le-ltb}
use lib.Dec.{ltb}
use lib.ListN.{get_or}
use Rattle.rules.specs.Turn.{legs, entry}
use Rattle.state.specs.Layout as L
use Rattle.records.proofs.RecordLaws.{adds_none}
use Rattle.execution.proofs.SlotLaws.{record_is}
use Rattle.execution.proofs.put_slot.Goals as goal

pub returns-then-units-eq0 : goal.returns-then-units-eq0
returns-then-units-eq0 c = rw c.if-units-eq0.true (adds_none _ _)

pub returns-then-slot-lt-BOOK : goal.returns-then-slot-lt-BOOK
returns-then-slot-lt-BOOK c =
    let a = c.args in
    let b : ltb 0 a.units ≡ true = lt-ltb 0 a.units (omega (arith, c.if-units-eq0.false)) in
    let e = record_is a.number a.order a.rank 0 a.legs a.units a.legs legs (omega arith) (omega arith) refl (omega (arith, c.requires.1)) in
    rw (b, lt-ltb a.slot 2 c.if-slot-lt-BOOK.true) (rw e at c.put_record.ensures)

pub returns : goal.returns
returns c =
    let a = c.args in
    let i = a.slot - 2 in
    let w = a.words.now in
    let b : ltb 0 a.units ≡ true = lt-ltb 0 a.units (omega (arith, c.if-units-eq0.false)) in
    let e = record_is a.number a.order a.rank c.contra_of-contra.result c.from-price.result a.units (get_or w (L.prices + i) 0) (entry (get_or w (L.ids + i) 0)) (omega arith) (omega arith) c.contra_of-contra.ensures
    (omega (arith, c.from-price.ensures, c.from-price.ensures)) in
    rw (b, le-ltb a.slot 2 c.if-slot-lt-BOOK.false) (rw e at c.put_record-2.ensures)
