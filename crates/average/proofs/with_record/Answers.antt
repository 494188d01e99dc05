use Rattle.average.proofs.PartLaws.{none_more, one_more}
use Rattle.average.specs.Parts.{Fits}
use Prim.Native.Nat.{ℕ}
use mathlib.Core.Path.{sym, ◌∙◌, subst}
use native.Mathlib.Omega.{arith}
use Rattle.average.proofs.with_record.Goals as goal

pub returns-then-given-eq0 : goal.returns-then-given-eq0
returns-then-given-eq0 c =
    record { is = none_more _ _ _ (sym c.units_named-given.ensures ∙ c.if-given-eq0.true); below = c.requires.1 }

pub paid-part-requires : goal.paid-part-requires
paid-part-requires c =
    (c.requires.0, omega (arith, c.requires.2, c.units_named-given.ensures))

pub plus-requires : goal.plus-requires
plus-requires c =
    let g = c.units_named-given.ensures in
    (c.requires.0, c.requires.1, c.paid-part.ensures.below, subst (λ (x : ℕ). Fits c.args.units x) (sym (one_more _ _ _ _ _ _ c.price_at.ensures g c.paid-part.ensures.is)) c.requires.3)

pub returns : goal.returns
returns c =
    let g = c.units_named-given.ensures in
    record { is = c.plus.ensures.is ∙ one_more _ _ _ _ _ _ c.price_at.ensures g c.paid-part.ensures.is; below = c.plus.ensures.below }
