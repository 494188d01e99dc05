use mathlib.Core.Path.{sym}
use mathlib.Core.List.{[], ◌∷◌}
use native.Mathlib.Nat.{mul-le-mul}
use native.Mathlib.Omega.{arith}
use Rattle.legprices.proofs.SumLaws.{reach_above, lone-every, lone-divided}
use Rattle.legprices.proofs.sums.alone.Goals as goal

pub overflow_mul-ratio : goal.overflow_mul-ratio
overflow_mul-ratio c = record { fits = omega (arith, mul-le-mul c.requires.0 c.requires.1) }

pub returns-then-most-s : goal.returns-then-most-s
returns-then-most-s c =
    let a = c.args in
    sym (reach_above (record { ratio = a.ratio; width = a.width } ∷ []) a.s (omega (arith, c.from-most.ensures)))

pub returns-then-ratio-lt2 : goal.returns-then-ratio-lt2
returns-then-ratio-lt2 c =
    let a = c.args in
    sym (lone-every (record { ratio = a.ratio; width = a.width }) a.s (omega arith) (omega (arith, c.from-most.ensures)))

pub returns : goal.returns
returns c =
    let a = c.args in
    lone-divided (record { ratio = a.ratio; width = a.width }) a.s (omega arith) (omega (arith, c.from-most.ensures))
