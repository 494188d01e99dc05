use mathlib.Core.Path.{◌≡◌}
use Rattle.types.specs.Refusals.{number_of}
use Rattle.text.proofs.PutsLaws.{puts_then}
use Rattle.session.proofs.TapeLaws.{back-text, read-text}
use Rattle.tumghavi.proofs.OutputLaws.{all_put}
use Rattle.tumghavi.proofs.tumghavi_print.Goals as goal

pub returns-in-Ok : goal.returns-in-Ok
returns-in-Ok c =
    all_put _ _ _ _ _ (read-text _ _ _ c.begin.new.longs c.begin.new.words c.in-Ok.b c.in-Ok.ensures) (puts_then _ _ _ _ _ _ _ _ c.put_title-at.ensures.0 c.put_messages.ensures)

pub returns-in-Err : goal.returns-in-Err
returns-in-Err c =
    let e : c.from.result ≡ number_of c.in-Err.back.row = c.from.ensures in
    all_put _ _ _ _ _ (back-text _ _ _ c.begin.new.longs c.begin.new.words c.in-Err.back c.in-Err.ensures) (rw e at c.put_refused.ensures.0)
