use mathlib.Core.Path.{ap, ◌∙◌}
use Rattle.rules.specs.Prices.{biased}
use Rattle.rules.specs.Book.{answer}
use mir.Syntax.{w32}
use mir.Facts.{to_z-of_z}
use borrow.Author.Rules.{rules}
use Rattle.intake.proofs.new_response.Goals as goal

pub returns : goal.returns
returns c =
    let a = c.args in
    λ i.
    record {
      id = a.t.id;
      participant = a.t.participant;
      buy = c.word_of.ensures i;
      customer = c.word_of-2.ensures i;
      price = (c.biased.ensures ∙ ap biased (to_z-of_z {w = w32} {z = a.t.price} (search rules))) i;
      units = a.t.units;
      arrival = a.number;
      stage = answer;
    }
