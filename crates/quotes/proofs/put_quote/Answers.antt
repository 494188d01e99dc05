use native.Mathlib.Omega.{arith}
use Rattle.quotes.proofs.QuoteLaws.{requoted}
use Rattle.quotes.proofs.put_quote.Goals as goal

pub returns : goal.returns
returns c = requoted c.args.words.now c.args.k c.args.q (omega arith) c.requires
