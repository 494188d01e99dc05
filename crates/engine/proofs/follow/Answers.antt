use mathlib.Core.Logic.{inl, inr}
use mathlib.Core.Path.{refl}
use Rattle.rules.specs.Step.{follow}
use Rattle.intake.specs.Acts.{act_of}
use Rattle.execution.proofs.GoesLaws.{goes_none}
use Rattle.engine.proofs.follow.Goals as goal

pub returns-in-GoesOn : goal.returns-in-GoesOn
returns-in-GoesOn c = rw c.in-GoesOn.is c.quiet.ensures

pub returns-in-Begins : goal.returns-in-Begins
returns-in-Begins c =
    let a = c.args in
    goes_none a.longs.now a.words.now a.list.now 0 (λ s. follow s (act_of a.act)) (elim c.in-Begins.is [ inl e ↦ rw e refl | inr e ↦ rw e refl ])

pub returns-in-Ends : goal.returns-in-Ends
returns-in-Ends c = rw c.in-Ends.is c.ending.ensures
