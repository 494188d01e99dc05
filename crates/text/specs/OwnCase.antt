-- Document 01's own case: what tapeprint prints, with the average line of M-102.
use Rattle.std.specs.Prelude.{◌≡◌, List, [], ◌∷◌, pos}
use Rattle.rules.specs.Turn.{L, R, legs, entry}
use Rattle.rules.specs.Print.{Line, title_line, fill_line, average_line, refused_line, last_line}
use Rattle.text.specs.Ascii.{ascii}
use Rattle.text.specs.Text.{lines_text}

-- its six lines
abbrev pub own_lines : List Line
own_lines =
    title_line
    ∷ fill_line (record { number = 4; order = 8; rank = L; contra = legs; price = pos 100; units = 10 })
    ∷ fill_line (record { number = 4; order = 8; rank = R; contra = entry 7; price = pos 100; units = 5 })
    ∷ average_line (record { order = 8; quotient = pos 100; remainder = 0 })
    ∷ refused_line 5 50
    ∷ last_line 1 0
    ∷ []

-- the output that the document shows, and the average line in it
abbrev pub OwnCaseText : Type 0
OwnCaseText =
    lines_text own_lines
    ≡ ascii "number order rank contra price units\n4 8 L 0 100 10\n4 8 R 7 100 5\naverage 8 100 0\nrefused 5 50\nopen 1 answers 0\n"
