use mathlib.Core.Path.{ap, ◌∙◌}
use Rattle.rules.specs.Step.{after_cancel, take_in}
use Rattle.intake.proofs.cancel_in.Goals as goal

pub returns : goal.returns
unfolding take_in
returns c =
    let r = c.remove in
    record { state = r.ensures; act = c.after_cancel.ensures r.new.longs ∙ ap after_cancel r.ensures }
