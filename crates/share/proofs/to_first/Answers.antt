use mathlib.Core.Path.{◌≡◌, ◌∙◌}
use mathlib.Core.List.{List}
use Prim.Native.Nat.{ℕ, min, ◌≤◌}
use native.Mathlib.Omega.{arith}
use lib.ListN.{drop}
use lib.Seq.{drop-set-lt}
use Rattle.share.proofs.LeftoverLaws.{first_is, none_is}
use Rattle.share.proofs.to_first.Goals as goal

kept : (n : ℕ) (new old : List ℕ) → n ≤ 66 → drop (min n 66) new ≡ drop (min n 66) old → drop n new ≡ drop n old
kept n new old h e =
    let m : min n 66 ≡ n = omega arith in
    rw m at e

pub returns-then-n-gt0 : goal.returns-then-n-gt0
returns-then-n-gt0 c =
    let a = c.args in
    let I = c.in_turn in
    let out = I.new.out in (
      first_is a.n a.amount a.sizes.now out (omega arith) c.requires.1 I.ensures.0,
      drop-set-lt a.n out 0 a.amount (omega arith) ∙ kept a.n I.new.out a.out.now c.requires.0 I.ensures.1,
    )

pub returns-else-n-gt0 : goal.returns-else-n-gt0
returns-else-n-gt0 c =
    let a = c.args in
    let I = c.in_turn in
    (none_is a.n a.amount a.sizes.now I.new.out (omega arith), kept a.n I.new.out a.out.now c.requires.0 I.ensures.1)
