use borrow.Author.Rules.{rules}
use Rattle.text.proofs.WroteLaws.{whole}
use Rattle.text.proofs.put_title.Goals as goal

pub returns : goal.returns
returns c = whole c.put_word.ensures (search rules) (search rules)
