-- Document 01, "Tape", and M-102: the bytes of a line of tapeprint's output; M-106: those of live's line of leg prices.
use Rattle.std.specs.Prelude.{List, [], ◌∷◌, ◌++◌, ℕ, zero, suc, ◌+◌, ◌/◌, ◌%◌, ltb, ℤ, pos, negsuc}
use Rattle.rules.specs.Basics.{pick}
use Rattle.rules.specs.Turn.{Rank, L, C, N, T, R, Contra, legs, entry, Fill}
use Rattle.rules.specs.LegPrices.{LegPrices, unpriced, priced}
use Rattle.rules.specs.Average.{OrderAverage}
use Rattle.rules.specs.Print.{Line, title_line, fill_line, legs_line, average_line, refused_line, last_line}
use Rattle.text.specs.Ascii.{ascii}

-- the digit of a number below 10
abbrev pub digit : ℕ → ℕ
digit n = 48 + n

-- the decimal digits of a number, most significant first: those of its tenth, and the last one; with a bound on the steps
unfoldable pub digits_in : ℕ → ℕ → List ℕ
digits_in zero n = digit n ∷ []
digits_in (suc k) n = pick (ltb n 10) (digit n ∷ []) (digits_in k (n / 10) ++ (digit (n % 10) ∷ []))

-- the same, for which as many steps as the number counts are enough
abbrev pub digits : ℕ → List ℕ
digits n = digits_in n n

-- a minus sign before a negative number
abbrev pub signed_digits : ℤ → List ℕ
signed_digits (pos n) = digits n
signed_digits (negsuc k) = 45 ∷ digits (suc k)

-- "rank L, legs; C, customer orders and responses; N, non-customer ones; T, late legs"; R
abbrev pub rank_letter : Rank → ℕ
rank_letter L = 76
rank_letter C = 67
rank_letter N = 78
rank_letter T = 84
rank_letter R = 82

-- "contra 0 is the legs"
abbrev pub contra_number : Contra → ℕ
contra_number legs = 0
contra_number (entry i) = i

-- the words behind the first, a space before each, and a newline
abbrev pub after : List (List ℕ) → List ℕ
after [] = 10 ∷ []
after (w ∷ ws) = 32 ∷ (w ++ after ws)

-- "number (the message's arrival number), order, rank, contra, price, units"
abbrev pub fill_text : Fill → List ℕ
fill_text f =
    digits f.number
    ++ after (digits f.order ∷ (rank_letter f.rank ∷ []) ∷ digits (contra_number f.contra) ∷ signed_digits f.price ∷ digits f.units ∷ [])

-- numbers, a space before each
abbrev pub spaced : List ℕ → List ℕ
spaced [] = []
spaced (n ∷ ns) = 32 ∷ (digits n ++ spaced ns)

-- M-106: a record's leg prices, or none
abbrev pub legs_text : LegPrices → List ℕ
legs_text unpriced = ascii "legs" ++ after (ascii "none" ∷ [])
legs_text (priced ps) = ascii "legs" ++ (spaced ps ++ after [])

-- "`average order quotient remainder`"
abbrev pub average_text : OrderAverage → List ℕ
average_text a = ascii "average" ++ after (digits a.order ∷ signed_digits a.quotient ∷ digits a.remainder ∷ [])

-- the bytes of a line, its newline included
abbrev pub line_text : Line → List ℕ
line_text title_line = ascii "number order rank contra price units" ++ after []
line_text (fill_line f) = fill_text f
line_text (legs_line p) = legs_text p
line_text (average_line a) = average_text a
line_text (refused_line k n) = ascii "refused" ++ after (digits k ∷ digits n ∷ [])
line_text (last_line o a) = ascii "open" ++ after (digits o ∷ ascii "answers" ∷ digits a ∷ [])

-- the bytes of some lines, one after the other
abbrev pub lines_text : List Line → List ℕ
lines_text [] = []
lines_text (l ∷ ls) = line_text l ++ lines_text ls
