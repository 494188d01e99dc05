-- What live answers to an opening and to a message: a line of one to three words.
use Rattle.std.specs.Prelude.{List, [], ◌∷◌, ◌++◌, ℕ, eqb}
use Rattle.rules.specs.Outcome.{Cause, by_time, by_order, by_legs, by_cancel, Outcome, Noted, Placed, Begun, Joined, Ended, Refused}
use Rattle.rules.specs.Basics.{pick}
use Rattle.text.specs.Ascii.{ascii}
use Rattle.text.specs.Text.{digits, after}

-- "cause: time, order or legs"; M-105: "a fourth cause, cancel"
abbrev pub cause_word : Cause → List ℕ
cause_word by_time = ascii "time"
cause_word by_order = ascii "order"
cause_word by_legs = ascii "legs"
cause_word by_cancel = ascii "cancel"

-- an outcome "with its own numbers"
abbrev pub outcome_text : Outcome → List ℕ
outcome_text (Noted n) = ascii "noted" ++ after (digits n ∷ [])
outcome_text (Placed u n) = ascii "placed" ++ after (digits u ∷ digits n ∷ [])
outcome_text (Begun t) = ascii "begun" ++ after (digits t ∷ [])
outcome_text (Joined u) = ascii "joined" ++ after (digits u ∷ [])
outcome_text (Ended c n) = ascii "ended" ++ after (cause_word c ∷ digits n ∷ [])
outcome_text (Refused n) = ascii "refused" ++ after (digits n ∷ [])

-- an opening, by the number that refuses it or 0
abbrev pub opening_text : ℕ → List ℕ
opening_text n = pick (eqb n 0) (ascii "opened" ++ after []) (ascii "refused" ++ after (digits n ∷ []))
