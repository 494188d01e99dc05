use mathlib.Core.Path.{sym, ◌∙◌}
use native.Mathlib.Omega.{arith}
use Rattle.types.specs.View.{derived_of}
use Rattle.execution.proofs.KeptLaws.{taken-outside, taken-other, taken-kept}
use Rattle.execution.proofs.kept.less_kept.Goals as goal

pub returns-then-words-eq0 : goal.returns-then-words-eq0
returns-then-words-eq0 c =
    let a = c.args in
    taken-outside a.longs.now a.words.now (derived_of a.d) a.taken c.if-words-eq0.true

pub returns-then-is_kept : goal.returns-then-is_kept
returns-then-is_kept c =
    let a = c.args in
    rw c.saturating_sub.ensures (taken-kept a.longs.now a.words.now (derived_of a.d) a.taken (omega arith) (sym c.is_kept.ensures ∙ c.if-is_kept.true))

pub returns-else-is_kept : goal.returns-else-is_kept
returns-else-is_kept c =
    let a = c.args in
    taken-other a.longs.now a.words.now (derived_of a.d) a.taken (sym c.is_kept.ensures ∙ c.if-is_kept.false)
