-- What each step of the making of a table of sums does to it.
use Rattle.std.specs.Prelude.{◌≡◌, Bool, ◌&&◌, ◌||◌, List, ℕ, suc, ◌+◌, ◌-◌, ◌*◌, ◌/◌, ◌%◌, ◌^◌, ◌≤◌, ◌<◌, eqb, leb, length, get_or}
use Rattle.rules.specs.Basics.{pick}
use Rattle.legprices.specs.Sums.{Span, any_of, reach, table_words, stands}

-- whether bit t of a word is set
abbrev pub bit : ℕ → ℕ → Bool
bit w t = eqb (w / 2 ^ t % 2) 1

-- a word joined with two others, high above low, that are moved up by m bits
abbrev pub Merged : ℕ → ℕ → ℕ → ℕ → ℕ → Type 0
Merged word low high m r = (t : ℕ) → t < 64 → bit r t ≡ (bit word t || pick (leb m t) (bit high (t - m)) (bit low (t + 64 - m)))

-- so many words from word b on are changed, so that a rule says which sums stand there, and no other word is
pub record Changed (words b : ℕ) (old new : List ℕ) (rule : ℕ → Bool) : Type 0 where
  pub sized : length new ≡ 44
  pub inside : (s : ℕ) → s < words * 64 → stands new b s ≡ rule s
  pub below : (i : ℕ) → i < b → get_or new i 0 ≡ get_or old i 0
  pub above : (i : ℕ) → b + words ≤ i → get_or new i 0 ≡ get_or old i 0

-- some sums, and each with a more
abbrev pub moved : (ℕ → Bool) → ℕ → ℕ → Bool
moved f a s = f s || (leb a s && f (s - a))

-- some sums, with so many cents of a leg more
abbrev pub smeared : (ℕ → Bool) → ℕ → ℕ → ℕ → Bool
smeared f ratio width s = any_of (suc width) 0 (λ y. leb (ratio * y) s && f (s - ratio * y))

-- a table of the sums that some legs can make
abbrev pub Shows : List ℕ → ℕ → List Span → Type 0
Shows bits b gs = (s : ℕ) → s < table_words * 64 → stands bits b s ≡ reach gs s
