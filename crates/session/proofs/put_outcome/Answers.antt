use mathlib.Core.Path.{◌≡◌}
use native.Mathlib.Omega.{arith}
use Rattle.rules.specs.Print.{refused_line}
use Rattle.types.specs.Refusals.{number_of}
use Rattle.text.proofs.PutsLaws.{puts_none, one_line}
use Rattle.session.proofs.put_outcome.Goals as goal

pub returns-in-Noted : goal.returns-in-Noted
returns-in-Noted c = rw c.in-Noted.is (puts_none _ _ _ c.min-start.ensures, omega arith)

pub returns-in-Placed : goal.returns-in-Placed
returns-in-Placed c = rw c.in-Placed.is (puts_none _ _ _ c.min-start.ensures, omega arith)

pub returns-in-Begun : goal.returns-in-Begun
returns-in-Begun c = rw c.in-Begun.is (puts_none _ _ _ c.min-start.ensures, omega arith)

pub returns-in-Joined : goal.returns-in-Joined
returns-in-Joined c = rw c.in-Joined.is (puts_none _ _ _ c.min-start.ensures, omega arith)

pub returns-in-Ended : goal.returns-in-Ended
returns-in-Ended c = rw c.in-Ended.is (puts_none _ _ _ c.min-start.ensures, omega arith)

pub returns-in-Refused : goal.returns-in-Refused
returns-in-Refused c =
    let a = c.args in
    let e : c.from.result ≡ number_of c.in-Refused.row = c.from.ensures in
    rw c.in-Refused.is (one_line (refused_line a.position (number_of c.in-Refused.row)) _ _ _ _ _ (rw e at c.put_refused.ensures))
