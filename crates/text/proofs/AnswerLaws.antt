-- The lines of live: the words with which an auction ends.
use mathlib.Core.Path.{◌≡◌, refl, ap, sym, subst, ◌∙◌}
use mathlib.Core.List.{List, [], ◌∷◌, ◌++◌}
use Prim.Native.Nat.{ℕ}
use Rattle.rules.specs.Outcome.{Cause, by_time, by_order, by_legs, by_cancel, Ended}
use Rattle.types.specs.declared.Cause.{Cause as Stored}
use Rattle.types.specs.View.{cause_of}
use Rattle.text.specs.Ascii.{ascii}
use Rattle.text.specs.Text.{digits, after}
use Rattle.text.specs.Buffer.{Put}
use Rattle.text.specs.Answers.{outcome_text}

abbrev end_words : Cause → List ℕ
end_words by_time = ascii "ended time"
end_words by_order = ascii "ended order"
end_words by_legs = ascii "ended legs"
end_words by_cancel = ascii "ended cancel"

ended_text : (c : Cause) (n : ℕ) → end_words c ++ after (digits n ∷ []) ≡ outcome_text (Ended c n)
ended_text by_time n = refl
ended_text by_order n = refl
ended_text by_legs n = refl
ended_text by_cancel n = refl

-- a cause that is known, and its words
pub put_end : (c k : Stored) (n : ℕ) (l m : List ℕ) (r : ℕ) → c ≡ k → Put (end_words (cause_of k) ++ after (digits n ∷ [])) l r m → Put (outcome_text (Ended (cause_of c) n)) l r m
put_end c k n l m r e p = subst (λ (bs : List ℕ). Put bs l r m) (ended_text (cause_of k) n ∙ ap (λ (h : Stored). outcome_text (Ended (cause_of h) n)) (sym e)) p
