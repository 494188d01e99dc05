use mathlib.Core.Path.{◌≡◌, sym, ap, ◌∙◌}
use Prim.Native.Nat.{ℕ}
use native.Mathlib.Omega.{arith}
use borrow.Author.Rules.{rules}
use Rattle.rules.specs.Strategy.{gcd_all}
use Rattle.types.specs.View.{leg_at, from}
use Rattle.types.proofs.TableLaws.{from_end}
use Rattle.opening.proofs.AskLaws.{gcd-cons}
use Rattle.opening.proofs.strategy.gcd_all.Goals as goal

pub loop-at-init : goal.loop-at-init
loop-at-init c =
    let o = c.args.o in
    (search rules, sym (ap gcd_all (from_end (leg_at o) o.count o.count (omega arith))))

pub loop-at-preserved : goal.loop-at-preserved
loop-at-preserved c =
    let o = c.args.o in
    (search rules, rw (c.gcd-divisor.ensures, c.loop-at.invariant.1) (sym (gcd-cons (leg_at o) c.loop-at.at o.count (omega arith) (omega arith))))

pub returns : goal.returns
returns c =
    let o = c.args.o in
    let e : c.loop-at.at ≡ 0 = omega arith in
    c.loop-at.invariant.1 ∙ ap (λ (k : ℕ). gcd_all (from (leg_at o) k o.count)) e
