use borrow.Author.Rules.{rules}
use Rattle.text.proofs.WroteLaws.{join, whole}
use Rattle.text.proofs.put_last.Goals as goal

pub returns : goal.returns
returns c =
    whole (join c.put_word-at.ensures (join c.put_next-at.ensures.0 (join c.put_word-at-2.ensures (join c.put_next-at-2.ensures.0 c.put_byte.ensures.0)))) (search rules) (search rules)
