use native.Mathlib.Omega.{arith}
use borrow.Author.Rules.{rules}
use Rattle.types.specs.View.{derived_of}
use Rattle.execution.specs.Slots.{rules_mode}
use Rattle.execution.proofs.ExecuteLaws.{legs-most, applied-is}
use Rattle.execution.proofs.applied.Goals as goal

pub overflow_add-lead : goal.overflow_add-lead
overflow_add-lead c =
    let a = c.args in
    let h = legs-most (rules_mode a.mode) a.longs.now a.words.now a.k (derived_of a.d) a.gave.now a.took c.requires.1 (omega arith) c.requires.2 in
    search rules

pub returns : goal.returns
returns c =
    let a = c.args in
    let b = c.settle.new.longs in
    applied-is (rules_mode a.mode) a.longs.now a.words.now a.k (derived_of a.d) a.gave.now a.took c.requires.1 (omega arith) c.requires.2 c.is_set-buy.result c.stage_after.result c.kept_after.new.words b c.settle.new.words c.lower.new.words
    c.is_set-buy.ensures c.stage_after.ensures c.kept_after.ensures c.settle.ensures (c.lower.ensures b)
