-- What is handed over of a page are the bytes that were put into it.
use mathlib.Core.Path.{◌≡◌}
use mathlib.Core.List.{List}
use Prim.Native.Nat.{ℕ, ◌+◌}
use native.Mathlib.Omega.{arith}
use lib.ListN.{length, take}
use lib.Seq.{length-take-le}
use Rattle.text.specs.Outputs.{Puts}
use Rattle.text.proofs.PutsLaws.{puts_room}
use Rattle.output.specs.Counted.{counted}

pub handed : (text lent : List ℕ) (at r : ℕ) (page : List ℕ) (before bytes : ℕ) → Puts text lent at r page → bytes ≡ counted (before + length (take r page)) → bytes ≡ counted (before + r)
handed text lent at r page before bytes p h = let size = length-take-le r page (puts_room text lent at r page p) in omega (arith, h, size)
