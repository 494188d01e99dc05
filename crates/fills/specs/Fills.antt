-- The answer to a message, and what it leaves in the lent slices and in both lists of records.
use Rattle.std.specs.Prelude.{◌≡◌, List, [], ◌∷◌, ◌++◌, ℕ, ◌*◌, ◌≤◌, ◌<◌, length, get_or, drop}
use Rattle.rules.specs.Turn as U
use Rattle.rules.specs.LegPrices.{LegPrices}
use Rattle.rules.specs.Messages.{Message}
use Rattle.types.specs.declared.Rank.{Rank}
use Rattle.types.specs.declared.Contra.{Contra}
use Rattle.types.specs.declared.Fill.{Fill}
use Rattle.types.specs.declared.Outcome.{Outcome}
use Rattle.types.specs.View.{outcome_of, held_legs, held_prices}
use Rattle.state.specs.View.{state_of}
use Rattle.records.specs.Records.{width}
use Rattle.engine.specs.Steps.{records_in, all_prices_in, refusal_in, answer_in}

-- the rank, the contra and the record with its leg prices that stand for the rules'
abbrev pub stored_rank : U.Rank → Rank
stored_rank U.L = Rank.L
stored_rank U.C = Rank.C
stored_rank U.N = Rank.N
stored_rank U.T = Rank.T
stored_rank U.R = Rank.R

abbrev pub stored_contra : U.Contra → Contra
stored_contra U.legs = Contra.Legs
stored_contra (U.entry i) = Contra.Entry i

abbrev pub stored_fill : U.Fill → LegPrices → Fill
stored_fill f p =
    record {
      number = f.number;
      price = f.price;
      order = f.order;
      units = f.units;
      rank = stored_rank f.rank;
      contra = stored_contra f.contra;
      legs = held_legs p;
      prices = held_prices p;
    }

-- records, each with its leg prices
abbrev pub stored_fills : List U.Fill → List LegPrices → List Fill
stored_fills [] ps = []
stored_fills (f ∷ fs) [] = []
stored_fills (f ∷ fs) (p ∷ ps) = stored_fill f p ∷ stored_fills fs ps

-- the list ys with the records fs at its start
abbrev pub written : {A : Type 0} → List A → List A → List A
written ys fs = fs ++ drop (length fs) ys

-- the records of a message, with as many places as the list of structs has
abbrev pub records_for : List ℕ → List ℕ → List ℕ → List Fill → Message → List U.Fill
records_for ls ws xs ys m = (answer_in ls ws xs m (length ys)).fills

-- and their leg prices
abbrev pub prices_for : List ℕ → List ℕ → List ℕ → List Fill → Message → List LegPrices
prices_for ls ws xs ys m = (answer_in ls ws xs m (length ys)).prices

-- what `apply` promises, whole: of the lent lists and the message as they were, the outcome, and the four lists as they came back
pub record IsApplied (ls ws xs : List ℕ) (ys : List Fill) (m : Message) (r : Outcome) (ls' ws' xs' : List ℕ) (zs : List Fill) : Type 0 where
  pub state : state_of ls' ws' ≡ (answer_in ls ws xs m (length ys)).state
  pub outcome : outcome_of r ≡ (answer_in ls ws xs m (length ys)).outcome
  pub records : records_in xs' (length (records_for ls ws xs ys m)) ≡ records_for ls ws xs ys m
  pub prices : all_prices_in xs' (length (records_for ls ws xs ys m)) ≡ prices_for ls ws xs ys m
  pub behind : (i : ℕ) → length (records_for ls ws xs ys m) * width ≤ i → get_or xs' i 0 ≡ get_or xs i 0
  pub list : zs ≡ written ys (stored_fills (records_for ls ws xs ys m) (prices_for ls ws xs ys m))
  pub sized : (length ls' ≡ length ls) × (length ws' ≡ length ws) × (length xs' ≡ length xs) × (length zs ≡ length ys)
  pub refused : 0 < refusal_in ls ws xs m (length ys) → (ls' ≡ ls) × (ws' ≡ ws) × (xs' ≡ xs) × (zs ≡ ys)
