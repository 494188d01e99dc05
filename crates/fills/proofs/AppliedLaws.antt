-- What the loop stores is the records of the numbers, and with them the lent lists are as `apply` promises.
use mathlib.Core.Path.{◌≡◌, refl, ap, ap₂, ◌∙◌}
use mathlib.Core.List.{List, [], ◌∷◌}
use Prim.Native.Nat.{ℕ, ◌+◌, ◌*◌, ◌/◌, ◌≤◌, ◌<◌}
use native.Mathlib.Omega.{arith}
use borrow.Author.Tests.{lt-ltb, ne_eqb}
use lib.ListN.{length}
use lib.Seq.{sets}
use Rattle.rules.specs.Turn as U
use Rattle.rules.specs.LegPrices.{LegPrices}
use Rattle.rules.specs.Messages.{Message}
use Rattle.rules.specs.State.{State}
use Rattle.rules.specs.Refusals.{refusal}
use Rattle.rules.specs.Step.{step}
use Rattle.types.specs.declared.Fill.{Fill}
use Rattle.types.specs.View.{from}
use Rattle.types.proofs.TableLaws.{from_cons, from_end, from-length}
use Rattle.state.specs.View.{state_of}
use Rattle.records.specs.Records.{width, record_in, record_at, prices_in, prices_at, Holds}
use Rattle.engine.specs.declared.Answer.{Answer}
use Rattle.engine.specs.Steps.{places_in, IsStep}
use Rattle.fills.specs.Fills.{stored_fills, written, records_for, prices_for, IsApplied}
use Rattle.fills.proofs.ListLaws.{sets-written}
use Rattle.fills.proofs.StoredLaws.{stored_one}

-- ---- the records of the numbers, from place i to before n, as they are held

abbrev pub stored_in : List ℕ → ℕ → ℕ → List Fill
stored_in xs i n = stored_fills (from (record_in xs) i n) (from (prices_in xs) i n)

pub stored_more : (xs : List ℕ) (i n : ℕ) (f : Fill) → i < n → n * width ≤ length xs → Holds (record_at xs i) (prices_at xs i) f → stored_in xs i n ≡ f ∷ stored_in xs (i + 1) n
stored_more xs i n f l h e =
    ap₂ stored_fills (from_cons (record_in xs) i n l) (from_cons (prices_in xs) i n l) ∙ ap (λ (g : Fill). g ∷ stored_in xs (i + 1) n) (stored_one f (record_in xs i) (prices_in xs i) there)
  where
    there : Holds (record_in xs i) (prices_in xs i) f
    there = let q : i < length xs / width = omega (arith, l, h) in rw (lt-ltb i (length xs / width) q) at e

pub stored_none : (xs : List ℕ) (i n : ℕ) → n ≤ i → stored_in xs i n ≡ []
stored_none xs i n l = ap₂ stored_fills (from_end (record_in xs) i n l) (from_end (prices_in xs) i n l)

stored_length : (fs : List U.Fill) (ps : List LegPrices) → length (stored_fills fs ps) ≤ length fs
stored_length [] ps = omega arith
stored_length (f ∷ fs) [] = omega arith
stored_length (f ∷ fs) (p ∷ ps) = omega (arith, stored_length fs ps)

pub stored_first : (xs : List ℕ) (ys : List Fill) (n : ℕ) → n ≤ length ys → sets ys 0 (stored_in xs 0 n) ≡ written ys (stored_in xs 0 n)
stored_first xs ys n l =
    sets-written ys (stored_in xs 0 n) (omega (arith, l, stored_length (from (record_in xs) 0 n) (from (prices_in xs) 0 n), from-length (record_in xs) 0 n))

-- ---- the end

-- a message that is refused has no record
none_refused : (s : State) (m : Message) (room : ℕ) → 0 < refusal s m room → (step s m room).fills ≡ []
unfolding step
none_refused s m room n = rw (ne_eqb (refusal s m room) 0 (λ z. omega arith)) refl

module _ (ls ws xs : List ℕ) (ys : List Fill) (m : Message) (a : Answer) (ls' ws' xs' : List ℕ) (e : IsStep ls ws xs m (length ys) ls' ws' xs' a) where
  pub count_fits : a.count ≤ length ys
  count_fits = e.inside.0

  pub numbers_fit : a.count * width ≤ length xs'
  numbers_fit = omega (arith, e.inside.1, e.sized.2)

  pub is-applied : (zs : List Fill) → length zs ≡ length ys → zs ≡ written ys (stored_in xs' 0 a.count) → IsApplied ls ws xs ys m a.outcome ls' ws' xs' zs
  is-applied zs k z = record {
    state = e.state;
    outcome = e.outcome;
    records = rw (← e.count) e.records;
    prices = rw (← e.count) e.prices;
    behind = λ i h. e.behind i (omega (arith, h, e.count));
    list = list-is;
    sized = (e.sized.0, e.sized.1, e.sized.2, k);
    refused = λ n. ((e.refused n).0, (e.refused n).1, (e.refused n).2, list-is ∙ ap (λ (fs : List U.Fill). written ys (stored_fills fs (prices_for ls ws xs ys m))) (none_refused (state_of ls ws) m (places_in ls ws xs (length ys)) n));
  }
    where
      list-is : zs ≡ written ys (stored_fills (records_for ls ws xs ys m) (prices_for ls ws xs ys m))
      list-is = z ∙ ap₂ (λ (fs : List U.Fill) (ps : List LegPrices). written ys (stored_fills fs ps)) e.records e.prices
