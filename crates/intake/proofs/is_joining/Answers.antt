use mathlib.Core.Path.{sym, ◌∙◌}
use mathlib.Core.Bool.{◌&&◌}
use Rattle.rules.specs.Book.{same_side}
use Rattle.state.specs.View.{state_of}
use Rattle.intake.proofs.ArrivalLaws.{joins_is, pending_side}
use Rattle.intake.proofs.is_joining.Goals as goal

pub returns : goal.returns
returns c = λ longs p o ea eb ep eu.
    let a = c.args in
    let side = c.same_side-same.ensures ∙ (λ i. same_side ((c.is_set-side.ensures ∙ pending_side longs a.words.now p ea) i) (sym eb i)) in
    (λ i. side i && c.asks-asking.ensures longs o eb ep eu i) ∙ joins_is (state_of longs a.words.now) p a.wish o
