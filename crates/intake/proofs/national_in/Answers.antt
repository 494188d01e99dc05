use mathlib.Core.Path.{refl}
use Rattle.rules.specs.Step.{take_in}
use Rattle.intake.proofs.national_in.Goals as goal

pub returns : goal.returns
unfolding take_in
returns c =
    record { state = c.put_national.ensures c.args.longs.now; act = refl }
