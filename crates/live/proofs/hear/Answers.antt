use mathlib.Core.Path.{sym}
use Prim.Native.Nat.{◌+◌}
use native.Mathlib.Omega.{arith}
use lib.Seq.{length-take-le}
use Rattle.live.proofs.LiveLaws.{round_over, round_heard}
use Rattle.live.proofs.hear.Goals as goal

pub returns-then-left-gt0 : goal.returns-then-left-gt0
returns-then-left-gt0 c =
    let a = c.args in
    round_over a.input.now _ a.left _ _ c.read_behind-got.ensures (omega (arith, c.requires))

pub returns-else-left-gt0 : goal.returns-else-left-gt0
returns-else-left-gt0 c =
    let a = c.args in
    round_over a.input.now _ a.left _ _ c.read_behind-got.ensures (omega (arith, c.requires))

pub slice_bounds-answer_all-end : goal.slice_bounds-answer_all-end
slice_bounds-answer_all-end c = sym (length-take-le _ _ c.read_behind-got.ensures.inside)

pub overflow_mul-start : goal.overflow_mul-start
overflow_mul-start c =
    let r = c.read_behind-got.ensures.inside in
    omega (arith, c.answer_all-b.ensures.inside, length-take-le (c.args.left + c.read_behind-got.result) c.read_behind-got.new.input r, r, c.read_behind-got.ensures.sized, c.well_formed)

pub returns : goal.returns
returns c =
    let a = c.args in
    round_heard a.input.now _ _ a.left c.read_behind-got.result _ _ _ _ _ c.read_behind-got.ensures c.answer_all-b.ensures c.copy_within.ensures.len c.copy_within.ensures.by_index.0
