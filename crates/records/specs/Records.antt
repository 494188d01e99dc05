-- Fill records in a list of numbers, eleven for each: six of document 01, and the leg prices of M-106. Every number has a meaning: an id or units above 32 bits count as the greatest of them, a price above the greatest as that.
use Rattle.std.specs.Prelude.{◌≡◌, Bool, true, false, List, [], ◌∷◌, ℕ, ◌+◌, ◌-◌, ◌*◌, ◌/◌, ◌≤◌, ◌<◌, min, eqb, ltb, length, get_or, take}
use Rattle.rules.specs.Basics.{pick}
use Rattle.rules.specs.Prices.{cents}
use Rattle.rules.specs.Turn.{Contra, legs, entry, Fill}
use Rattle.rules.specs.LegPrices.{LegPrices, unpriced, priced}
use Rattle.types.specs.declared.Fill as F
use Rattle.types.specs.View.{from, narrow, rank_from, contra_from, fill_of, held_legs, held_prices}
use Rattle.state.specs.Lent.{LentMut}

-- the greatest biased price that a record gives
abbrev pub most_given : ℕ
most_given = 4_611_686_018_427_387_904

-- a record of six numbers
abbrev pub record_from : ℕ → ℕ → ℕ → ℕ → ℕ → ℕ → Fill
record_from number order rank contra price units =
    record { number = number; order = narrow order; rank = rank_from rank; contra = contra_from contra; price = cents (min price most_given); units = narrow units }

-- the numbers of a record
abbrev pub width : ℕ
width = 11

-- the record at a place of a list
abbrev pub record_in : List ℕ → ℕ → Fill
record_in l j =
    record_from (get_or l (j * width) 0) (get_or l (j * width + 1) 0) (get_or l (j * width + 2) 0) (get_or l (j * width + 3) 0) (get_or l (j * width + 4) 0) (get_or l (j * width + 5) 0)

-- the same, of zeros where the list has no such place
abbrev pub record_at : List ℕ → ℕ → Fill
record_at l j = pick (ltb j (length l / width)) (record_in l j) (record_from 0 0 0 0 0 0)

-- its leg prices, from a number that is 0 for none or one more than there are, and four others
abbrev pub prices_from : ℕ → List ℕ → LegPrices
prices_from n ps = pick (eqb n 0) unpriced (priced (take (n - 1) ps))

-- those of the record at a place
abbrev pub prices_in : List ℕ → ℕ → LegPrices
prices_in l j =
    prices_from (get_or l (j * width + 6) 0) (get_or l (j * width + 7) 0 ∷ get_or l (j * width + 8) 0 ∷ get_or l (j * width + 9) 0 ∷ get_or l (j * width + 10) 0 ∷ [])

-- the same, none where the list has no such place
abbrev pub prices_at : List ℕ → ℕ → LegPrices
prices_at l j = pick (ltb j (length l / width)) (prices_in l j) unpriced

-- a struct holds a record and its leg prices
abbrev pub Holds : Fill → LegPrices → F.Fill → Type 0
Holds f p r = (fill_of r ≡ f) × (r.legs ≡ held_legs p) × (r.prices ≡ held_prices p)

-- whether a contra is the legs
abbrev pub is_legs : Contra → Bool
is_legs legs = true
is_legs (entry i) = false

-- one number of the record at a place of a list, 0 where the list has no such place
abbrev pub number_at : List ℕ → ℕ → ℕ → ℕ
number_at l j k = pick (ltb j (length l / width)) (get_or l (j * width + k) 0) 0

-- some records put behind the first `at` of a list, which has r then: they are there if there is room for them all; before and behind them nothing changes
pub record Adds (old : List ℕ) (at : ℕ) (new : List ℕ) (r : ℕ) (fs : List Fill) : Type 0 where
  pub sized : length new ≡ length old
  pub more : at ≤ r
  pub inside : at * width ≤ length old → r * width ≤ length old
  pub before : (i : ℕ) → i < at * width → get_or new i 0 ≡ get_or old i 0
  pub behind : (i : ℕ) → r * width ≤ i → get_or new i 0 ≡ get_or old i 0
  pub made : (at + length fs) * width ≤ length old → (r ≡ at + length fs) × (from (record_in new) at r ≡ fs)

-- the same said of a lent list, for a contract
abbrev pub Writes : LentMut → ℕ → ℕ → List Fill → Type 0
Writes list at r fs = Adds list.entry.now at list.exit.now r fs

-- the same with the leg prices of each
pub record AddsPriced (old : List ℕ) (at : ℕ) (new : List ℕ) (r : ℕ) (fs : List Fill) (ps : List LegPrices) : Type 0 where
  pub records : Adds old at new r fs
  pub prices : (at + length fs) * width ≤ length old → from (prices_in new) at r ≡ ps

-- leg prices given to the record at place j of a list: they are there if it has the place, and nothing else changes
pub record Prices (old : List ℕ) (j : ℕ) (new : List ℕ) (p : LegPrices) : Type 0 where
  pub sized : length new ≡ length old
  pub before : (i : ℕ) → i < j * width + 6 → get_or new i 0 ≡ get_or old i 0
  pub behind : (i : ℕ) → j * width + width ≤ i → get_or new i 0 ≡ get_or old i 0
  pub made : j * width + width ≤ length old → prices_in new j ≡ p
