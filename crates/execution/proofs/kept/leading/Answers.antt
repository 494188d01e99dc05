use borrow.Author.Tests.{ne_eqb}
use Rattle.execution.proofs.kept.leading.Goals as goal

pub returns-then-words-eq0 : goal.returns-then-words-eq0
returns-then-words-eq0 c = rw c.if-words-eq0.true

pub returns-then-are_late : goal.returns-then-are_late
returns-then-are_late c =
    rw (ne_eqb _ _ c.if-words-eq0.false, ← c.are_late.ensures c.args.words.now, c.if-are_late.true)

pub returns : goal.returns
returns c =
    rw (ne_eqb _ _ c.if-words-eq0.false, ← c.are_late.ensures c.args.words.now, c.if-are_late.false) c.up_to_kept.ensures
