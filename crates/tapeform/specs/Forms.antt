-- What tapeform writes for a tape.
use Rattle.std.specs.Prelude.{List, ℕ, eqb}
use Rattle.rules.specs.Basics.{pick}
use Rattle.rules.specs.Tape.{tape_refusal}
use Rattle.rules.specs.Spelling.{form_of}
use Rattle.rules.specs.Print.{refused_line}
use Rattle.text.specs.Text.{line_text}

-- its form; "refused 0 number" where it is turned back
unfoldable pub form_text : List ℕ → List ℕ
form_text t = pick (eqb (tape_refusal t) 0) (form_of t) (line_text (refused_line 0 (tape_refusal t)))
