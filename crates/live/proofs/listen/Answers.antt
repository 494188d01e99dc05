use mathlib.Core.Path.{refl}
use native.Mathlib.Omega.{arith}
use borrow.Author.Tests.{not-false}
use Rattle.live.proofs.LiveLaws.{lived_none, lived_more}
use borrow.Author.Rules.{rules}
use Rattle.live.proofs.listen.Goals as goal

pub loop-reads-init : goal.loop-reads-init
loop-reads-init c = (omega arith, omega arith, omega arith, lived_none _)

pub hear-t-requires : goal.hear-t-requires
hear-t-requires c = omega (arith, c.loop-reads.invariant.0)

pub overflow_add-records : goal.overflow_add-records
overflow_add-records c =
    let v = c.loop-reads.invariant in
    let h = c.hear-t.ensures in
    omega (arith, v.1, c.loop-reads-test.true, h.answered.inside, h.few.1)

pub returns-then-not-t : goal.returns-then-not-t
returns-then-not-t c =
    let v = c.loop-reads.invariant in
    let h = c.hear-t.ensures in
    let more = lived_more _ _ _ (record { records = c.loop-reads.records; bytes = c.loop-reads.bytes }) h.heard _ _ _ _ v.3 h.answered c.count_up-bytes.ensures in
    more

pub loop-reads-preserved : goal.loop-reads-preserved
loop-reads-preserved c =
    let v = c.loop-reads.invariant in
    let h = c.hear-t.ensures in
    let more = lived_more _ _ _ (record { records = c.loop-reads.records; bytes = c.loop-reads.bytes }) h.heard _ _ _ _ v.3 h.answered c.count_up-bytes.ensures in
    let l = h.left in
    let all = h.answered.all (not-false _ c.if-not-t.false) in
    let t = c.loop-reads-test.true in
    (omega (arith, l, all), omega (arith, v.1, h.answered.inside, h.few.1), omega (arith, t), more)

pub returns : goal.returns
returns c = c.loop-reads.invariant.3
