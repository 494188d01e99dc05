use mathlib.Core.Path.{◌≡◌, subst}
use Prim.Native.Nat.{ℕ}
use Rattle.rules.specs.Outcome.{Refused}
use Rattle.text.specs.Buffer.{Put}
use Rattle.text.specs.Answers.{outcome_text}
use Rattle.types.specs.Refusals.{number_of}
use Rattle.text.proofs.put_outcome.Goals as goal

pub returns-in-Noted : goal.returns-in-Noted
returns-in-Noted c = rw c.in-Noted.is c.put_line.ensures

pub returns-in-Placed : goal.returns-in-Placed
returns-in-Placed c = rw c.in-Placed.is c.put_line-in-Placed.ensures

pub returns-in-Begun : goal.returns-in-Begun
returns-in-Begun c = rw c.in-Begun.is c.put_line-in-Begun.ensures

pub returns-in-Joined : goal.returns-in-Joined
returns-in-Joined c = rw c.in-Joined.is c.put_line-in-Joined.ensures

pub returns-in-Ended : goal.returns-in-Ended
returns-in-Ended c = rw c.in-Ended.is c.put_ended.ensures

pub returns-in-Refused : goal.returns-in-Refused
returns-in-Refused c =
    let e : c.from.result ≡ number_of c.in-Refused.row = c.from.ensures in
    rw c.in-Refused.is (subst (λ (n : ℕ). Put (outcome_text (Refused n)) c.args.out.now c.put_line-in-Refused.result c.put_line-in-Refused.new.out) e c.put_line-in-Refused.ensures)
