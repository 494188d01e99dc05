use mathlib.Core.Path.{refl}
use Prim.Native.Nat.{◌-◌}
use native.Mathlib.Omega.{arith}
use Rattle.legprices.proofs.MadeLaws.{span-most, shows-pair}
use Rattle.legprices.proofs.sums.last_two.Goals as goal

pub smear-requires : goal.smear-requires
smear-requires c =
    let a = c.args in
    let sp = c.requires.0 in
    (omega arith, sp.ratio (a.legs.now.count - 1), sp.width (a.legs.now.count - 1), omega (arith, span-most a.legs.now sp (a.legs.now.count - 1)))

pub smear-requires-2 : goal.smear-requires-2
smear-requires-2 c =
    let a = c.args in
    let sp = c.requires.0 in
    (omega arith, sp.ratio (a.legs.now.count - 2), sp.width (a.legs.now.count - 2), omega (arith, span-most a.legs.now sp (a.legs.now.count - 2)))

pub returns : goal.returns
returns c =
    let a = c.args in
    shows-pair a.legs.now c.requires.0 _ _ _ _ _ c.requires.1 refl c.clear.ensures c.smear.ensures c.smear-2.ensures
