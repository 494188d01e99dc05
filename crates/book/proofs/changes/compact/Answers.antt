use mathlib.Core.Path.{◌∙◌}
use mathlib.Core.Bool.{false}
use native.Mathlib.Omega.{arith}
use lib.ListN.{get_or}
use Rattle.book.proofs.StoreLaws.{counted-flag}
use Rattle.book.proofs.BookLaws.{going_start, going_step, going_end}
use borrow.Author.Rules.{rules}
use Rattle.book.proofs.changes.compact.Goals as goal

pub loop-k-init : goal.loop-k-init
loop-k-init c =
    let a = c.args in
    let s = c.staying-w in
    (s.ensures.0, omega arith, c.open_count-m.ensures, going_start a.keep.now a.longs.now a.words.now c.open_count-m.result (omega arith) s.result (search rules) s.ensures.0 s.ensures.1)

pub loop-k-preserved : goal.loop-k-preserved
loop-k-preserved c =
    let a = c.args in
    let v = c.loop-k.invariant in
    let one = counted-flag (get_or a.keep.now c.loop-k.k false) in (
      omega arith,
      omega arith,
      v.2,
      rw (c.put_entry.ensures.0, c.put_entry.ensures.1)
          (going_step a.keep.now a.longs.now a.words.now c.open_count-m.result (omega (arith, v.2)) c.loop-k.longs c.loop-k.words c.loop-k.w c.loop-k.k c.from-w.result c.entry_at-e.result v.3 (omega arith) v.1
          c.entry_at-e.ensures (c.from-w.ensures ∙ one.0)),
    )

pub returns : goal.returns
returns c =
    let a = c.args in
    let v = c.loop-k.invariant in
    going_end a.keep.now a.longs.now a.words.now c.open_count-m.result (omega (arith, v.2)) c.loop-k.longs c.loop-k.words c.loop-k.w c.loop-k.k v.3 (omega arith) (omega arith) v.2
