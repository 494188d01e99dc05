use Prim.Native.Nat.{◌-◌}
use native.Mathlib.Omega.{arith}
use lib.ListN.{length}
use borrow.Author.Rules.{rules}
use borrow.Rule.Slice.PartMut.{mid_len, take_put}
use Rattle.live.proofs.read_behind.Goals as goal

pub returns : goal.returns
returns c =
    let input = c.args.input.now in
    let m = mid_len c.args.left (length input) input (omega arith) in
    record { first = take_put c.args.left (length input - c.args.left) input c.read_some.new.room (omega (arith, c.requires)); inside = omega (arith, m, c.requires, c.read_some.ensures); sized = search rules }
