-- A record of the rules is held by one record alone.
use mathlib.Core.Path.{◌≡◌, refl, sym, ap, ◌∙◌}
use Rattle.rules.specs.Turn as U
use Rattle.rules.specs.LegPrices.{LegPrices}
use Rattle.types.specs.declared.Rank.{Rank}
use Rattle.types.specs.declared.Contra.{Contra}
use Rattle.types.specs.declared.Fill.{Fill}
use Rattle.types.specs.View.{rank_of, contra_of, fill_of, held_legs, held_prices}
use Rattle.records.specs.Records.{Holds}
use Rattle.fills.specs.Fills.{stored_rank, stored_contra, stored_fill}

stored_rank_lem : (k : Rank) → stored_rank (rank_of k) ≡ k
stored_rank_lem Rank.L = refl
stored_rank_lem Rank.C = refl
stored_rank_lem Rank.N = refl
stored_rank_lem Rank.T = refl
stored_rank_lem Rank.R = refl

stored_contra_lem : (c : Contra) → stored_contra (contra_of c) ≡ c
stored_contra_lem Contra.Legs = refl
stored_contra_lem (Contra.Entry i) = refl

stored_shown : (f : Fill) (p : LegPrices) → f.legs ≡ held_legs p → f.prices ≡ held_prices p → stored_fill (fill_of f) p ≡ f
stored_shown f p l k = sym (λ i. record {
  number = f.number;
  price = f.price;
  order = f.order;
  units = f.units;
  rank = sym (stored_rank_lem f.rank) i;
  contra = sym (stored_contra_lem f.contra) i;
  legs = l i;
  prices = k i;
})

pub stored_one : (f : Fill) (g : U.Fill) (p : LegPrices) → Holds g p f → stored_fill g p ≡ f
stored_one f g p h = sym (ap (λ (x : U.Fill). stored_fill x p) h.0) ∙ stored_shown f p h.1 h.2
