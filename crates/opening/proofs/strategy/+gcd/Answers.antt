-- A step does not change the divisor.
use mathlib.Core.Path.{sym, ◌∙◌}
use native.Mathlib.Nat.{pos_of_ne-zero}
use Rattle.opening.proofs.AskLaws.{gcd_ends, gcd-step}
use Rattle.opening.proofs.strategy.+gcd.Goals as goal

pub returns-then-b-eq0 : goal.returns-then-b-eq0
returns-then-b-eq0 t c = sym (gcd_ends c.args.a c.args.b c.if-b-eq0.true)

pub returns-else-b-eq0 : goal.returns-else-b-eq0
returns-else-b-eq0 t c = c.gcd.ensures ∙ sym (gcd-step c.args.a c.args.b (pos_of_ne-zero c.if-b-eq0.false))
