use mathlib.Core.Path.{ap, ◌∙◌}
use Rattle.rules.specs.Tape.{message_of}
use Rattle.tape.proofs.PartLaws.{part_at}
use Rattle.tape.proofs.message_at.Goals as goal

pub returns : goal.returns
returns c =
    let a = c.args in
    c.message_of.ensures ∙ ap message_of (part_at a.tape.now a.at c.min.result c.min.ensures)
