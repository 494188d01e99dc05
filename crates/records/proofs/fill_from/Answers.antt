use mathlib.Core.Path.{◌≡◌, refl, sym, ◌∙◌}
use mathlib.Core.List.{[], ◌∷◌}
use lib.ListN.{get_or}
use mir.Syntax.{w64}
use mir.Val.{to_z, of_z}
use Rattle.records.proofs.RecordLaws.{held_four}
use borrow.Author.Rules.{rules}
use Rattle.records.proofs.fill_from.Goals as goal

pub returns : goal.returns
returns c =
    let n = c.args.numbers.now in
    let z : to_z w64 (of_z w64 c.cents.result) ≡ c.cents.result = search rules in (
      λ i. record {
        number = get_or n 0 0;
        order = c.narrowed.ensures i;
        rank = c.from.ensures i;
        contra = c.from-2.ensures i;
        price = (z ∙ c.cents.ensures) i;
        units = c.narrowed-2.ensures i;
      },
      c.legs_from.ensures (get_or n 7 0 ∷ get_or n 8 0 ∷ get_or n 9 0 ∷ get_or n 10 0 ∷ []) refl,
      (λ i. c.price_from.ensures i ∷ c.price_from-2.ensures i ∷ c.price_from-3.ensures i ∷ c.price_from-4.ensures i ∷ [])
          ∙ sym (held_four (get_or n 6 0) (get_or n 7 0) (get_or n 8 0) (get_or n 9 0) (get_or n 10 0)),
    )
