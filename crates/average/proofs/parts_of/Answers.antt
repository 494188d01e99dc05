use native.Mathlib.Nat.{div-add-mod', mod-lt}
use Rattle.average.proofs.parts_of.Goals as goal

pub returns : goal.returns
returns c = let a = c.args in record { is = div-add-mod' a.x a.units; below = mod-lt a.x c.requires }
