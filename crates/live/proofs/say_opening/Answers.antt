use mathlib.Core.Path.{sym}
use native.Mathlib.Omega.{arith}
use lib.Seq.{length-take-le}
use Rattle.live.proofs.say_opening.Goals as goal

pub slice_bounds-write_all-end : goal.slice_bounds-write_all-end
slice_bounds-write_all-end c = let p = c.put_opening-n.ensures in sym (length-take-le _ _ (omega (arith, p.2, p.3)))
