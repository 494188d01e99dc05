-- The symbol behind the other words.
use native.Mathlib.Omega.{arith}
use Rattle.opening.proofs.LegLaws.{leg-stored}
use Rattle.opening.proofs.put_leg.Goals as goal

pub returns : goal.returns
returns c =
    let a = c.args in
    leg-stored a.words.now c.put_symbol.new.words a.k a.leg (omega arith) c.requires c.put_symbol.ensures
