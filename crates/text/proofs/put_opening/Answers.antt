use borrow.Author.Rules.{rules}
use borrow.Author.Tests.{ne_eqb}
use Rattle.text.proofs.WroteLaws.{whole}
use Rattle.text.proofs.put_opening.Goals as goal

pub returns-then-number-eq0 : goal.returns-then-number-eq0
returns-then-number-eq0 c = rw c.if-number-eq0.true (whole c.put_word.ensures (search rules) (search rules))

pub returns : goal.returns
returns c = rw (ne_eqb _ 0 c.if-number-eq0.false) c.put_line.ensures
