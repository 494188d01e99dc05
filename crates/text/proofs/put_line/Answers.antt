use Rattle.text.proofs.PriceLaws.{spaced_after}
use Rattle.text.proofs.WroteLaws.{join, same, whole}
use borrow.Author.Rules.{rules}
use Rattle.text.proofs.put_line.Goals as goal

pub returns : goal.returns
returns c =
    whole (join c.put_word-at.ensures (same (spaced_after c.args.numbers.now) (join c.put_numbers-at.ensures.0 c.put_byte.ensures.0))) (search rules) (search rules)
