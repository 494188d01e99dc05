-- What the rows ask of a state in its words, and two rows read one after the other.
use mathlib.Core.Path.{◌≡◌, refl, ◌∙◌}
use mathlib.Core.Bool.{Bool, true, false, ◌&&◌}
use mathlib.Core.List.{List, [], ◌∷◌, ◌++◌}
use Prim.Native.Nat.{ℕ, ◌-◌, ◌<◌}
use native.Mathlib.Omega.{arith}
use lib.Dec.{leb, ltb}
use lib.ListN.{length, get_or}
use Rattle.rules.specs.Basics.{pick, Rule, first_of}
use Rattle.rules.specs.State.{none, pending, reached}
use Rattle.rules.proofs.TestLaws.{lt_of, and_left, and_right}
use Rattle.rules.proofs.RowLaws.{is_numbered}
use Rattle.types.proofs.TableLaws.{from-length}
use Rattle.state.specs.Layout as L
use Rattle.state.specs.View.{flag, leg_at, leg_count, legs_of, pending_of, auction_of}

pub legs_length : (words : List ℕ) → length (legs_of words) ≡ leg_count words
legs_length words = let z : leg_count words - 0 ≡ leg_count words = omega arith in from-length (leg_at words) 0 (leg_count words) ∙ z

pub reached_words : (longs words : List ℕ) (time : ℕ) → reached (auction_of longs words) time ≡ (flag (get_or words L.pending 0) && leb (get_or longs L.deadline 0) time)
reached_words longs words time = go (flag (get_or words L.pending 0))
  where
    go : (b : Bool) → reached (pick b (pending (pending_of longs words)) none) time ≡ (b && leb (get_or longs L.deadline 0) time)
    go true = refl
    go false = refl

-- the first row has a number: it is that of both
pub first_found : (rs ts : List Rule) → 0 < first_of rs → first_of (rs ++ ts) ≡ first_of rs
first_found [] ts h = absurd (omega arith)
first_found (r ∷ rs) ts h = go r.holds h (first_found rs ts)
  where
    go : (b : Bool) → 0 < pick b r.number (first_of rs) → (0 < first_of rs → first_of (rs ++ ts) ≡ first_of rs) → pick b r.number (first_of (rs ++ ts)) ≡ pick b r.number (first_of rs)
    go true k ih = refl
    go false k ih = ih k

-- it has none, though each of its rules has one: the second row's is that of both
pub first_none : (rs ts : List Rule) → is_numbered rs ≡ true → first_of rs ≡ 0 → first_of (rs ++ ts) ≡ first_of ts
first_none [] ts n h = refl
first_none (r ∷ rs) ts n h =
    go r.holds (lt_of 0 r.number (and_left (ltb 0 r.number) (is_numbered rs) n)) h (first_none rs ts (and_right (ltb 0 r.number) (is_numbered rs) n))
  where
    go : (b : Bool) → 0 < r.number → pick b r.number (first_of rs) ≡ 0 → (first_of rs ≡ 0 → first_of (rs ++ ts) ≡ first_of ts) → pick b r.number (first_of (rs ++ ts)) ≡ first_of ts
    go true p k ih = absurd (omega arith)
    go false p k ih = ih k
