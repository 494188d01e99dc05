-- What is promised of one opening holds of another that opens as it does.
use mathlib.Core.Path.{◌≡◌, refl, ap, sym, ◌∙◌}
use mathlib.Core.Bool.{Bool, true, false}
use mathlib.Core.List.{List}
use Prim.Native.Nat.{ℕ}
use lib.Dec.{eqb}
use Rattle.rules.specs.Basics.{pick}
use Rattle.rules.specs.Strategy.{Strategy, opening_refusal}
use Rattle.rules.specs.Run.{Opened, refused_opening, started, start_of, opening}
use Rattle.rules.proofs.TestLaws.{eq_of}
use Rattle.state.specs.Layout.{is_sized}
use Rattle.opening.specs.Opens.{Opens}

abbrev number_of : Opened → ℕ
number_of (refused_opening n) = n
number_of (started s) = 0

opening_number : (o : Strategy) → number_of (opening o) ≡ opening_refusal o
unfolding opening
opening_number o = go (eqb (opening_refusal o) 0) refl
  where
    go : (b : Bool) → eqb (opening_refusal o) 0 ≡ b → number_of (pick b (started (start_of o)) (refused_opening (opening_refusal o))) ≡ opening_refusal o
    go true e = sym (eq_of (opening_refusal o) 0 e)
    go false e = refl

pub opens-same : (longs words longs' words' : List ℕ) (r : ℕ) (o q : Strategy) → opening o ≡ opening q → Opens longs words o r longs' words' → Opens longs words q r longs' words'
opens-same longs words longs' words' r o q e p =
    record {
      number = p.number ∙ ap (λ (n : ℕ). pick (is_sized longs words) n 10) (sym (opening_number o) ∙ ap number_of e ∙ opening_number q);
      answer = λ t. p.answer t ∙ e;
      refused = p.refused;
      sized = p.sized;
    }
