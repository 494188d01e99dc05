use Rattle.refusals.proofs.RowLaws.{legs_length}
use Rattle.intake.proofs.meets_class.Goals as goal

pub returns : goal.returns
returns c = λ longs. rw (c.leg_count-legs.ensures, legs_length c.args.words.now)
