use mathlib.Core.Path.{◌≡◌}
use Prim.Native.Nat.{◌+◌, ◌-◌, ◌*◌, ◌/◌}
use native.Mathlib.Omega.{arith}
use Rattle.book.proofs.GapLaws.{closing-none, closing_then, closing_end}
use Rattle.book.proofs.changes.close_gap.Goals as goal

pub loop-i-init : goal.loop-i-init
loop-i-init c =
    let a = c.args in
    let z : a.k + 4 * 0 ≡ a.k = omega arith in
    rw z (closing-none a.k a.longs.now a.words.now (omega arith, omega arith))

pub shift-requires : goal.shift-requires
shift-requires c = omega (arith, c.open_count-m.ensures)

pub loop-i-preserved : goal.loop-i-preserved
loop-i-preserved c =
    let a = c.args in
    let i = c.loop-i.i in
    let z : a.k + 4 * (i + 1) ≡ a.k + 4 * i + 4 = omega arith in
    rw z (closing_then a.k (a.k + 4 * i) (a.k + 4 * i + 4) a.longs.now a.words.now c.loop-i.longs c.loop-i.words c.shift.new.longs c.shift.new.words (omega arith) (omega arith) (omega (arith, c.open_count-m.ensures)) c.loop-i.invariant c.shift.ensures)

pub loop-w-init : goal.loop-w-init
loop-w-init c =
    let z : c.loop-i.i ≡ (c.open_count-m.result - 1 - c.args.k) / 4 = omega arith in
    (omega arith, rw z at c.loop-i.invariant)

pub shift-requires-in-loop-w : goal.shift-requires-in-loop-w
shift-requires-in-loop-w c = omega (arith, c.open_count-m.ensures)

pub loop-w-preserved : goal.loop-w-preserved
loop-w-preserved c =
    let a = c.args in
    let w = c.loop-w.w in
    let v = c.loop-w.invariant in
    (omega arith, closing_then a.k w (w + 1) a.longs.now a.words.now c.loop-w.longs c.loop-w.words c.shift-in-loop-w.new.longs c.shift-in-loop-w.new.words v.0 (omega arith) (omega (arith, c.open_count-m.ensures)) v.1 c.shift-in-loop-w.ensures)

pub returns : goal.returns
returns c =
    let a = c.args in
    let v = c.loop-w.invariant in
    closing_end a.k c.loop-w.w _ a.longs.now a.words.now c.loop-w.longs c.loop-w.words v.1 v.0 (omega (arith, c.open_count-m.ensures)) (omega (arith, c.open_count-m.ensures))
