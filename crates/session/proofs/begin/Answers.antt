use mathlib.Core.Path.{ap}
use Rattle.rules.specs.Tape.{Header}
use Rattle.session.proofs.begin.Goals as goal

pub returns-in-Ok : goal.returns-in-Ok
returns-in-Ok c =
    let h = c.header_of-h.ensures in
    record { by = c.in-Ok.ensures; count = ap (λ (x : Header). x.message_count) h; at = ap (λ (x : Header). x.message_offset) h }

pub returns-in-Err : goal.returns-in-Err
returns-in-Err c =
    let h = c.header_of-h.ensures in
    record { by = c.in-Err.ensures; count = ap (λ (x : Header). x.message_count) h; at = ap (λ (x : Header). x.message_offset) h }
