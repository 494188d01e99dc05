use mathlib.Core.Path.{refl, ap, ◌∙◌}
use Prim.Native.Nat.{ℕ}
use Rattle.rules.specs.Book.{answer}
use Rattle.rules.specs.Step.{entry_of as new_entry, with_new, take_in}
use Rattle.types.specs.View.{response_terms}
use Rattle.state.specs.View.{state_of}
use Rattle.intake.proofs.response_in.Goals as goal

pub returns : goal.returns
unfolding take_in
returns c =
    let a = c.args in
    record {
      state = c.append.ensures ∙ ap (with_new (state_of a.longs.now a.words.now)) (c.new_response-e.ensures ∙ ap (λ (n : ℕ). new_entry (response_terms a.t) n answer) c.number_of.ensures);
      act = refl;
    }
