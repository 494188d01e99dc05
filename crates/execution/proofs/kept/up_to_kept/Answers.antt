use Rattle.types.specs.View.{derived_of}
use Rattle.execution.proofs.KeptLaws.{up-to-kept-is}
use Rattle.execution.proofs.kept.up_to_kept.Goals as goal

pub returns-then-is_kept : goal.returns-then-is_kept
returns-then-is_kept c =
    let a = c.args in
    rw (up-to-kept-is a.longs.now a.words.now (derived_of a.d), ← c.is_kept.ensures, c.if-is_kept.true) c.min.ensures

pub returns-else-is_kept : goal.returns-else-is_kept
returns-else-is_kept c =
    let a = c.args in
    rw (up-to-kept-is a.longs.now a.words.now (derived_of a.d), ← c.is_kept.ensures, c.if-is_kept.false)
