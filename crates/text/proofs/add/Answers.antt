use mathlib.Core.Path.{◌≡◌, refl, ap, ◌∙◌}
use native.Mathlib.Omega.{arith}
use lib.ListN.{length, take, length-take}
use lib.Seq.{sets}
use Rattle.text.proofs.SetsLaws.{sets_least, take_least}
use Rattle.text.proofs.add.Goals as goal

pub returns : goal.returns
returns c =
    let a = c.args in
    let e = c.min-start.ensures in
    let r = c.add_within.ensures in
    let n = length-take a.n a.line.now in
    let t : take c.min-size.result a.line.now ≡ take a.n a.line.now = rw c.min-size.ensures (take_least a.line.now a.n 128 (omega arith)) in
    record {
      bytes = r.0 ∙ ap (sets a.out.now c.min-start.result) t ∙ rw e (sets_least (take a.n a.line.now) a.out.now a.at (length a.out.now) refl);
      end = let q = r.1 in omega (arith, n, q, e, c.min-size.ensures);
    }
