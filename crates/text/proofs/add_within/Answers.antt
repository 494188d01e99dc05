use mathlib.Core.Path.{◌≡◌, ◌∙◌}
use Prim.Native.Nat.{◌+◌, ◌-◌}
use native.Mathlib.Omega.{arith}
use lib.ListN.{length, take}
use lib.Seq.{length-sets}
use Rattle.std.proofs.lemmas.List.{length-take-le}
use Rattle.text.proofs.SetsLaws.{part-set, sets_room}
use Rattle.text.proofs.add_within.Goals as goal

pub returns : goal.returns
returns c =
    let a = c.args in
    let m = c.min-m.result in
    let bs = take m a.line.now in
    let q : length bs ≡ m = length-take-le m a.line.now (omega arith) in
    let e = part-set a.out.now bs _ a.at (a.at + m - a.at) (omega arith) c.copy_from_slice.ensures.after (omega arith) ∙ sets_room a.line.now a.out.now a.at a.n m c.min-m.ensures (omega arith) (omega arith) in
    (e, omega arith, rw e (length-sets a.out.now a.at (take a.n a.line.now)))
