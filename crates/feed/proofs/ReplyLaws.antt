-- The answer to a record of a kind, and of one of none; and its bytes, told.
use mathlib.Core.Path.{◌≡◌, refl, ap, subst, ◌∙◌}
use mathlib.Core.Bool.{true, false}
use mathlib.Core.List.{List, [], ◌++◌}
use Prim.Native.Nat.{ℕ, ◌*◌, ◌≤◌, min}
use native.Mathlib.Omega.{arith}
use lib.ListN.{length, length-append}
use Rattle.rules.specs.Outcome.{Refused}
use Rattle.rules.specs.Refusals.{least_room}
use Rattle.rules.specs.Messages.{Message}
use Rattle.rules.specs.State.{State}
use Rattle.rules.specs.Print.{live_lines}
use Rattle.rules.specs.Tape.{Fields, fields_of, is_kind, message_from}
use Rattle.types.specs.View.{outcome_of}
use Rattle.types.proofs.TableLaws.{from_end}
use Rattle.state.specs.Layout.{Sized}
use Rattle.state.specs.View.{state_of}
use Rattle.records.specs.Records.{width, record_in, prices_in}
use Rattle.engine.specs.declared.Answer.{Answer}
use Rattle.engine.specs.Steps.{records_in, all_prices_in, places_in, IsStep}
use Rattle.engine.proofs.StepLaws.{all-places}
use Rattle.average.specs.Sums.{first_records}
use Rattle.text.specs.Text.{lines_text}
use Rattle.text.specs.Answers.{outcome_text}
use Rattle.text.specs.Prices.{first_prices}
use Rattle.text.specs.Outputs.{most_line, Puts}
use Rattle.text.proofs.PutsLaws.{puts_then}
use Rattle.text.proofs.FillLaws.{records_known}
use Rattle.text.proofs.PriceLaws.{prices_known}
use Rattle.feed.specs.Replies.{answer_of, answer_to, IsAnswer, IsTold}

module _ (longs words list : List ℕ) (f : Fields) (room : ℕ) (r : Answer) where
  pub known-answer : (m : Message) (longs' words' list' : List ℕ) → is_kind f.kind ≡ true → m ≡ message_from f → IsStep longs words list m room longs' words' list' r → IsAnswer longs words list f room longs' words' list' r
  unfolding answer_of
  known-answer m longs' words' list' k e a =
      let a' : IsStep longs words list (message_from f) room longs' words' list' r = subst (λ (x : Message). IsStep longs words list x room longs' words' list' r) e a in
      record {
        state = rw k a'.state;
        outcome = rw k a'.outcome;
        count = rw k a'.count;
        records = rw k a'.records;
        prices = rw k a'.prices;
        behind = a'.behind;
        sized = a'.sized;
        inside = a'.inside;
        refused = λ h. a'.refused (rw k at h);
      }

  pub unknown-answer : is_kind f.kind ≡ false → r.count ≡ 0 → outcome_of r.outcome ≡ Refused 61 → IsAnswer longs words list f room longs words list r
  unfolding answer_of
  unknown-answer k c o =
      let none : records_in list r.count ≡ [] = rw c (from_end (record_in list) 0 0 (omega arith)) in
      let unpriced : all_prices_in list r.count ≡ [] = rw c (from_end (prices_in list) 0 0 (omega arith)) in
      record {
        state = rw k refl;
        outcome = rw k o;
        count = rw k c;
        records = rw k none;
        prices = rw k unpriced;
        behind = λ i h. refl;
        sized = (refl, refl, refl);
        inside = (omega arith, omega arith);
        refused = λ h. (refl, refl, refl);
      }

-- of equal fields
pub same_answer : (longs words list : List ℕ) (f g : Fields) (room : ℕ) (longs' words' list' : List ℕ) (r : Answer) → f ≡ g → IsAnswer longs words list f room longs' words' list' r → IsAnswer longs words list g room longs' words' list' r
same_answer longs words list f g room longs' words' list' r e a = subst (λ (x : Fields). IsAnswer longs words list x room longs' words' list' r) e a

-- ---- told

pub record_told : (l w list p lent : List ℕ) (at : ℕ) (l' w' list' mid : List ℕ) (end : ℕ) (out : List ℕ) (r : ℕ) (a : Answer) → Sized l w → least_room * width ≤ length list → IsAnswer l w list (fields_of p) least_room l' w' list' a
    → Puts (outcome_text (outcome_of a.outcome)) lent at end mid × (length (outcome_text (outcome_of a.outcome)) ≤ most_line)
    → Puts (lines_text (live_lines (first_records list' a.count) (first_prices list' a.count))) mid end r out × (length (lines_text (live_lines (first_records list' a.count) (first_prices list' a.count))) ≤ 3 * most_line * min a.count least_room)
    → IsTold l w list p lent at l' w' list' out r
record_told l w list p lent at l' w' list' mid end out r a z h t o f =
    let s : State = state_of l w in
    let e : places_in l w list least_room ≡ least_room = all-places l w list z h in
    let n : a.count ≤ least_room = t.inside.0 in
    let first : List ℕ = outcome_text (outcome_of a.outcome) in
    let rest : List ℕ = lines_text (live_lines (first_records list' a.count) (first_prices list' a.count)) in
    let known : outcome_of a.outcome ≡ (answer_to s p least_room).outcome = t.outcome ∙ ap (λ (n : ℕ). (answer_to s p n).outcome) e in
    let fills : first_records list' a.count ≡ (answer_to s p least_room).fills = records_known list' a.count t.inside.0 (omega (arith, t.sized.2, t.inside.1)) ∙ t.records ∙ ap (λ (n : ℕ). (answer_to s p n).fills) e in
    let prices : first_prices list' a.count ≡ (answer_to s p least_room).prices = prices_known list' a.count t.inside.0 (omega (arith, t.sized.2, t.inside.1)) ∙ t.prices ∙ ap (λ (n : ℕ). (answer_to s p n).prices) e in
    let bytes : first ++ rest ≡ outcome_text (answer_to s p least_room).outcome ++ lines_text (live_lines (answer_to s p least_room).fills (answer_to s p least_room).prices) = (λ i. outcome_text (known i) ++ lines_text (live_lines (fills i) (prices i))) in
    let size = length-append first rest in
    record {
      puts = subst (λ (x : List ℕ). Puts x lent at r out) bytes (puts_then first rest lent at mid end r out o.0 f.0);
      few = let x = ap length bytes in omega (arith, size, x, o.1, f.1, n);
      state = t.state ∙ ap (λ (n : ℕ). (answer_to s p n).state) e;
      refused = λ y. t.refused (rw e y);
    }
