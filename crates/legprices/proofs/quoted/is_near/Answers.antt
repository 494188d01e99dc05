use native.Mathlib.Omega.{arith}
use Rattle.legprices.proofs.RangeLaws.{near-without, near-crossed, near-width}
use Rattle.legprices.proofs.quoted.is_near.Goals as goal

pub returns-then-bid-eq0 : goal.returns-then-bid-eq0
returns-then-bid-eq0 c = near-without c.args.bid c.args.ask c.if-bid-eq0.true

pub returns-then-ask-bid : goal.returns-then-ask-bid
returns-then-ask-bid c = near-crossed c.args.bid c.args.ask c.if-ask-bid.true

pub returns : goal.returns
returns c = near-width c.args.bid c.args.ask (omega arith) (omega arith)
