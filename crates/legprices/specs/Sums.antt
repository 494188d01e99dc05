-- The sums that some legs can make, and tables of them as bits.
use Rattle.std.specs.Prelude.{◌≡◌, Bool, false, ◌&&◌, ◌||◌, List, [], ◌∷◌, ℕ, zero, suc, ◌+◌, ◌-◌, ◌*◌, ◌/◌, ◌%◌, ◌^◌, ◌≤◌, ◌<◌, eqb, leb, length, get_or}
use Rattle.rules.specs.Strategy.{most_ratio}
use Rattle.rules.specs.LegPrices.{most_wide}
use Rattle.types.specs.View.{from}
use Rattle.legprices.specs.declared.Ranges.{Ranges}

-- a leg: each cent counts its ratio, and its prices are so many cents wide
pub record Span : Type 0 where
  pub ratio : ℕ
  pub width : ℕ

-- whether one of n numbers from y on passes a test
abbrev pub any_of : ℕ → ℕ → (ℕ → Bool) → Bool
any_of zero y f = false
any_of (suc n) y f = f y || any_of n (suc y) f

-- whether some legs can make a sum: so many cents of each, no more than its width, times its ratio
unfoldable pub reach : List Span → ℕ → Bool
reach [] s = eqb s 0
reach (g ∷ gs) s = any_of (suc g.width) 0 (λ y. leb (g.ratio * y) s && reach gs (s - g.ratio * y))

-- ---- legs in arrays

-- the leg at a place
abbrev pub span_at : Ranges → ℕ → Span
span_at r k = record { ratio = get_or r.ratios k 0; width = get_or r.widths k 0 }

-- the legs from place i on
abbrev pub spans_from : Ranges → ℕ → List Span
spans_from r i = from (span_at r) i r.count

-- at most four legs, with ratios and widths within their bounds
pub record Bounded (r : Ranges) : Type 0 where
  pub few : r.count ≤ 4
  pub ratio : (k : ℕ) → get_or r.ratios k 0 ≤ most_ratio
  pub width : (k : ℕ) → get_or r.widths k 0 ≤ most_wide

-- ---- tables of bits

-- the words of a table: three legs make at most 1,350
abbrev pub table_words : ℕ
table_words = 22

-- whether a sum stands in the table from word b on: bit s % 64 of its word s / 64
abbrev pub stands : List ℕ → ℕ → ℕ → Bool
stands bits b s = eqb (get_or bits (b + s / 64) 0 / 2 ^ (s % 64) % 2) 1

-- the first word of the table of the legs from place i on
abbrev pub table_at : ℕ → ℕ
table_at i = (i - 1) * table_words

-- a table for the legs from each place on but the first and the last: for the last two of three, and for the last three and the last two of four
pub record Made (r : Ranges) (bits : List ℕ) : Type 0 where
  pub sized : length bits ≡ 44
  pub shown : (i : ℕ) → 1 ≤ i → i + 2 ≤ r.count → (s : ℕ) → s < table_words * 64 → stands bits (table_at i) s ≡ reach (spans_from r i) s

-- legs within their bounds, with their tables
abbrev pub Ready : Ranges → List ℕ → Type 0
Ready r bits = Bounded r × Made r bits
