-- The three ends of an opening: slices that are no state's, a number of the table, or its state.
use mathlib.Core.Path.{◌≡◌, refl, ap, sym, ◌∙◌}
use mathlib.Core.Bool.{Bool, true, false, true≢false}
use mathlib.Core.List.{List}
use Prim.Native.Nat.{ℕ, ◌<◌}
use native.Mathlib.Omega.{arith}
use borrow.Author.Tests.{eq-eqb, ne_eqb}
use lib.ListN.{length}
use Rattle.rules.specs.Basics.{pick}
use Rattle.rules.specs.Strategy.{Strategy, opening_refusal}
use Rattle.rules.specs.Run.{refused_opening, started, start_of, opening}
use Rattle.state.specs.Layout.{is_sized}
use Rattle.state.specs.View.{state_of}
use Rattle.opening.specs.Opens.{Opens}

module _ (longs words : List ℕ) (o : Strategy) where
  abbrev numbered : Bool → ℕ
  numbered b = pick b (opening_refusal o) 10

  pub unfit : is_sized longs words ≡ false → Opens longs words o 10 longs words
  unfit e = record { number = ap numbered (sym e); answer = λ t. absurd (true≢false (sym t ∙ e)); refused = λ h. (refl, refl); sized = (refl, refl) }

  pub turned-back : (r : ℕ) → is_sized longs words ≡ true → r ≡ opening_refusal o → 0 < r → Opens longs words o r longs words
  unfolding opening
  turned-back r e n h = record {
    number = n ∙ ap numbered (sym e);
    answer = λ t. rw (ne_eqb r 0 (λ z. omega arith), ne_eqb (opening_refusal o) 0 (λ z. omega arith)) (ap refused_opening n);
    refused = λ h. (refl, refl);
    sized = (refl, refl);
  }

  pub opened : (longs' words' : List ℕ) → is_sized longs words ≡ true → 0 ≡ opening_refusal o → state_of longs' words' ≡ start_of o → length longs' ≡ length longs → length words' ≡ length words
      → Opens longs words o 0 longs' words'
  unfolding opening
  opened longs' words' e n s a b = record {
    number = n ∙ ap numbered (sym e);
    answer = λ t. rw (eq-eqb (opening_refusal o) 0 (sym n)) (ap started s);
    refused = λ h. absurd (omega arith);
    sized = (a, b);
  }
