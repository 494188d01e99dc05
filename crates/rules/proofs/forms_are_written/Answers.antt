use Rattle.rules.proofs.HandedLaws.{forms_are_written}
use Rattle.rules.proofs.forms_are_written.Goals as goal

pub returns : goal.returns
returns c = forms_are_written
