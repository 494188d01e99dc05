use mathlib.Core.Path.{◌≡◌, ap, ◌∙◌}
use Prim.Native.Nat.{ℕ, ◌+◌, ◌-◌}
use native.Mathlib.Omega.{arith}
use lib.Dec.{eqb}
use lib.ListN.{take}
use borrow.Author.Rules.{rules}
use borrow.Author.Tests.{tests}
use Rattle.std.specs.List.{position}
use Rattle.std.proofs.lemmas.Iterator.{YieldsList-from_slice}
use Rattle.std.proofs.lemmas.Iterator.Search.{position_from_yields_List}
use Rattle.state.specs.View.{open_count}
use Rattle.book.proofs.FindLaws.{find-position}
use Rattle.book.proofs.find.Goals as goal

pub returns-clause-entry : goal.returns-clause-entry
returns-clause-entry c longs =
    let w = c.args.words.now in
    let z : 0 + c.open_count-m.result - 0 ≡ open_count w = omega (arith, c.open_count-m.ensures) in
    let p : c.position.result ≡ position (λ x. eqb x c.args.id) (take (open_count w) w) =
    position_from_yields_List (λ x. eqb x c.args.id) _ _ _ c.position.ensures.ran (YieldsList-from_slice (take (open_count w) w) (c.iter.ensures.rest ∙ ap (λ (n : ℕ). take n w) z)) (λ x b q k. search (rules, tests)) in
    rw p (find-position longs w c.args.id (search rules))
