-- Document 02, M-102, "Average price with its remainder": the averages of a message's records, and that they are exact.
use Rattle.std.specs.Prelude.{◌≡◌, Bool, List, [], ◌∷◌, map, ◌⊎◌, ◌↔◌, ℕ, suc, ◌+◌, ◌-◌, ◌/◌, ◌%◌, ◌<◌, eqb, ltb, ℤ, pos, negsuc, ◌+ℤ◌, ◌*ℤ◌}
use Rattle.rules.specs.Basics.{pick, All, Pairwise}
use Rattle.rules.specs.Strategy.{Strategy}
use Rattle.rules.specs.State.{State}
use Rattle.rules.specs.Turn.{Fill}
use Rattle.rules.specs.Run.{started, opening, Sent, answers}

-- ---- the sum and the units of an order

-- "the records that name it as order"
abbrev pub names : ℕ → Fill → Bool
names i f = eqb f.order i

-- "the sum of price × units"
abbrev pub sum_for : ℕ → List Fill → ℤ
sum_for i [] = pos 0
sum_for i (f ∷ fs) = pick (names i f) (f.price *ℤ pos f.units +ℤ sum_for i fs) (sum_for i fs)

-- the units of the same records
abbrev pub units_for : ℕ → List Fill → ℕ
units_for i [] = 0
units_for i (f ∷ fs) = pick (names i f) (f.units + units_for i fs) (units_for i fs)

-- ---- the average of an order

-- "divided by units, rounded toward minus infinity"
abbrev pub floor : ℤ → ℕ → ℤ
floor (pos a) n = pos (a / n)
floor (negsuc a) n = negsuc (a / n)

-- "the remainder, from 0 to units less 1"
abbrev pub rest : ℤ → ℕ → ℕ
rest (pos a) n = a % n
rest (negsuc a) n = n - 1 - a % n

-- "An order without fills in that message has no average and is said to have none"
pub data Average : Type 0 where
  none : Average
  exact : ℤ → ℕ → Average

-- the average of an order over a message's records
unfoldable pub average_for : ℕ → List Fill → Average
average_for i fs = pick (ltb 0 (units_for i fs)) (exact (floor (sum_for i fs) (units_for i fs)) (rest (sum_for i fs) (units_for i fs))) none

-- ---- the averages of a message

-- ids less one
abbrev pub without : ℕ → List ℕ → List ℕ
without i [] = []
without i (j ∷ js) = pick (eqb j i) (without i js) (j ∷ without i js)

-- "each id in their order column, by first record"
abbrev pub firsts : List Fill → List ℕ
firsts [] = []
firsts (f ∷ fs) = f.order ∷ without f.order (firsts fs)

-- an order and its average
pub record OrderAverage : Type 0 where
  pub order : ℕ
  pub quotient : ℤ
  pub remainder : ℕ

-- an order's average in front of others, if it has one
abbrev pub listed : ℕ → Average → List OrderAverage → List OrderAverage
listed i none xs = xs
listed i (exact q r) xs = record { order = i; quotient = q; remainder = r } ∷ xs

-- the averages of some orders
abbrev pub averages_of : List Fill → List ℕ → List OrderAverage
averages_of fs [] = []
averages_of fs (i ∷ is) = listed i (average_for i fs) (averages_of fs is)

-- those of a message's records
unfoldable pub averages : List Fill → List OrderAverage
averages fs = averages_of fs (firsts fs)

-- ---- the claim, in words of its own

-- going through the records: those that name an order have this sum of price × units, and these units
pub data SumsTo (i : ℕ) : List Fill → ℤ → ℕ → Type 0 where
  nothing : SumsTo i [] (pos 0) 0
  counted : (f : Fill) (fs : List Fill) (z : ℤ) (n : ℕ) → f.order ≡ i → SumsTo i fs z n → SumsTo i (f ∷ fs) (f.price *ℤ pos f.units +ℤ z) (f.units + n)
  passed : (f : Fill) (fs : List Fill) (z : ℤ) (n : ℕ) → (f.order ≡ i → ⊥) → SumsTo i fs z n → SumsTo i (f ∷ fs) z n

-- quotient × units + remainder is the sum, and the remainder is below the units
pub record Exact (fs : List Fill) (i : ℕ) (q : ℤ) (r : ℕ) : Type 0 where
  pub sum : ℤ
  pub units : ℕ
  pub sums : SumsTo i fs sum units
  pub whole : q *ℤ pos units +ℤ pos r ≡ sum
  pub below : r < units

-- the order has a record
abbrev pub HasRecord : ℕ → List Fill → Type 0
HasRecord i [] = ⊥
HasRecord i (f ∷ fs) = (f.order ≡ i) ⊎ HasRecord i fs

-- the order has an average
abbrev pub HasAverage : ℕ → List OrderAverage → Type 0
HasAverage i [] = ⊥
HasAverage i (a ∷ xs) = (a.order ≡ i) ⊎ HasAverage i xs

-- how many records stand before its first
abbrev pub first_at : ℕ → List Fill → ℕ
first_at i [] = 0
first_at i (f ∷ fs) = pick (eqb f.order i) 0 (suc (first_at i fs))

-- what an order is told: none, and it has no record; or one that is exact
abbrev pub Says : ℕ → List Fill → Average → Type 0
Says i fs none = HasRecord i fs → ⊥
Says i fs (exact q r) = Exact fs i q r

-- what M-102 asks of the averages of some records
pub record GoodAverages (fs : List Fill) : Type 0 where
  pub each_exact : All (λ a. Exact fs a.order a.quotient a.remainder) (averages fs)
  -- each order that has a record has an average, and no other has any
  pub each : (i : ℕ) → HasRecord i fs ↔ HasAverage i (averages fs)
  -- of two the earlier has the earlier first record, so that no order has two
  pub by_first : Pairwise (λ a b. first_at a.order fs < first_at b.order fs) (averages fs)
  -- and asked of any order
  pub asked : (i : ℕ) → Says i fs (average_for i fs)

-- of any records that each have units; and so of the rules' own answers, for every accepted opening and every list of messages, refused ones included
unfoldable pub AveragesAreExactOfRules : Type 0
AveragesAreExactOfRules =
    ((fs : List Fill) → All (λ f. 0 < f.units) fs → GoodAverages fs)
    × ((o : Strategy) (s : State) → opening o ≡ started s → (ms : List Sent) → All GoodAverages (map (λ a. a.fills) (answers s ms)))
