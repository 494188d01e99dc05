use native.Mathlib.Omega.{arith}
use Rattle.legprices.proofs.MadeLaws.{span-most, made, made-three}
use Rattle.legprices.proofs.sums.make.Goals as goal

pub returns-then-legs-lt3 : goal.returns-then-legs-lt3
returns-then-legs-lt3 c =
    let a = c.args in
    made a.legs.now c.requires _ (omega arith) (λ h. absurd (omega arith)) (λ h. absurd (omega arith))

pub smear-requires : goal.smear-requires
smear-requires c =
    let a = c.args in
    let sp = c.requires in
    (omega arith, sp.ratio 1, sp.width 1, omega (arith, span-most a.legs.now sp 1))

pub returns-then-legs-eq4 : goal.returns-then-legs-eq4
returns-then-legs-eq4 c =
    let a = c.args in
    made-three a.legs.now c.requires _ _ _ c.if-legs-eq4.true c.last_two.ensures c.copy.ensures c.smear.ensures

pub returns-else-legs-eq4 : goal.returns-else-legs-eq4
returns-else-legs-eq4 c =
    let a = c.args in
    made a.legs.now c.requires _ (omega arith) (λ h. c.last_two.ensures) (λ h. absurd (c.if-legs-eq4.false h))
