use mathlib.Core.Path.{◌≡◌, sym, ◌∙◌}
use Prim.Native.Nat.{min}
use native.Mathlib.Omega.{arith}
use lib.ListN.{take}
use Rattle.execution.proofs.GrantLaws.{deal_yes, deal_no}
use Rattle.execution.proofs.deal.Goals as goal

pub returns-then-is_shared : goal.returns-then-is_shared
returns-then-is_shared c =
    let m : min c.args.n 66 ≡ c.args.n = omega (arith, c.requires) in
    let y = deal_yes c.args.k c.args.amount (take c.args.n c.args.sizes.now) (sym c.is_shared.ensures ∙ c.if-is_shared.true) in
    rw m at c.share.ensures.0 ∙ y

pub returns-else-is_shared : goal.returns-else-is_shared
returns-else-is_shared c =
    let m : min c.args.n 66 ≡ c.args.n = omega (arith, c.requires) in
    let y = deal_no c.args.k c.args.amount (take c.args.n c.args.sizes.now) (sym c.is_shared.ensures ∙ c.if-is_shared.false) in
    rw m at c.in_turn.ensures.0 ∙ y
