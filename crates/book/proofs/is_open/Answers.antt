use mathlib.Core.Path.{refl, ◌∙◌}
use native.Mathlib.Omega.{arith}
use lib.Dec.{eqb}
use Rattle.state.specs.View.{entry_at, open_count}
use Rattle.book.proofs.FindLaws.{any-column}
use Rattle.book.proofs.is_open.Goals as goal

pub returns : goal.returns
returns c longs =
    let a = c.args in
    let w = a.words.now in
    c.contains.ensures.value ∙ any-column (λ x. eqb x a.id) (λ e. eqb e.id a.id) (entry_at longs w) w 0 (open_count w) _ (omega arith) (omega (arith, c.open_count-m.ensures)) (λ i h. refl)
