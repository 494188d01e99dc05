use mathlib.Core.Path.{ap, ◌∙◌}
use mathlib.Core.Bool.{not}
use native.Mathlib.Omega.{arith}
use Rattle.book.proofs.GapLaws.{all_stay}
use Rattle.book.proofs.changes.drop_filled.Goals as goal

pub returns-then-any_from : goal.returns-then-any_from
returns-then-any_from c =
    let k = c.compact.ensures in
    record { longs = k.longs; words = k.words; entries = λ p f. k.entries p (λ i h. c.others-keep.ensures i h ∙ f i h) }

pub returns-else-any_from : goal.returns-else-any_from
returns-else-any_from c =
    let a = c.args in
    all_stay _ a.longs.now a.words.now (λ i h. ap not (c.any_from.ensures c.if-any_from.false i (omega arith) h))
