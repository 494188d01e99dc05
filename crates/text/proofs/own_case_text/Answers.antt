-- The own case's text, computed.
use mathlib.Core.Path.{refl}
use Rattle.text.specs.Text.{digits_in}
use Rattle.text.specs.OwnCase.{OwnCaseText}
use Rattle.text.proofs.own_case_text.Goals as goal

as-shown : OwnCaseText
unfolding digits_in
as-shown = refl

pub returns : goal.returns
returns c = as-shown
