-- The search for leg prices as one for a sum: with the least that can be paid and the most that can be got, each cent up from a bid where it is paid, or down from an ask where it is got, counts its ratio.
use Rattle.std.specs.Prelude.{◌≡◌, ◌≤◌, Option, None, Some, Bool, true, false, ◌&&◌, List, [], ◌∷◌, ◌++◌, ℕ, zero, suc, ◌+◌, ◌-◌, ◌*◌, eqb, leb}
use Rattle.rules.specs.Basics.{pick}
use Rattle.rules.specs.LegPrices.{LegPrices, unpriced, priced, Range, tries, part}
use Rattle.legprices.specs.Sums.{Span, reach}

-- the cents that a price counts, x above the bid of a leg that is so many cents wide
abbrev pub counts : Bool → ℕ → ℕ → ℕ
counts plus width x = pick plus x (width - x)

-- what a price of a leg takes of a sum
abbrev pub takes : Range → ℕ → ℕ
takes g p = g.ratio * counts g.plus (g.ask - g.bid) (p - g.bid)

-- the first prices that make a sum: the lowest on leg 0, then on leg 1, and so on
unfoldable pub found : List Range → ℕ → LegPrices
found [] s = pick (eqb s 0) (priced []) unpriced
found (g ∷ gs) s = tries (suc g.ask - g.bid) g.bid (λ p. pick (leb (takes g p) s) (found gs (s - takes g p)) unpriced)

-- the least that is paid
abbrev pub least_paid : List Range → ℕ
least_paid [] = 0
least_paid (g ∷ gs) = part true g g.bid + least_paid gs

-- the most that is got
abbrev pub most_got : List Range → ℕ
most_got [] = 0
most_got (g ∷ gs) = part false g g.ask + most_got gs

-- the greatest sum that some legs can make
abbrev pub greatest : List Span → ℕ
greatest [] = 0
greatest (g ∷ gs) = g.ratio * g.width + greatest gs

-- the legs of some ranges
abbrev pub spans_of : List Range → List Span
spans_of [] = []
spans_of (g ∷ gs) = record { ratio = g.ratio; width = g.ask - g.bid } ∷ spans_of gs

-- whether there are leg prices
abbrev pub is_priced : LegPrices → Bool
is_priced unpriced = false
is_priced (priced ps) = true

-- the first of n numbers from x on that passes a test, or else the one behind them
abbrev pub first : ℕ → ℕ → (ℕ → Bool) → ℕ
first zero x f = x
first (suc n) x f = pick (f x) x (first n (suc x) f)

-- the number that is the first up to an end, if that is not behind it
abbrev pub IsFirst : Option ℕ → ℕ → ℕ → Type 0
IsFirst None end f = f ≡ end + 1
IsFirst (Some x) end f = (x ≡ f) × (x ≤ end)

-- whether a price x above the bid of a leg leaves of a sum what the later legs can make
abbrev pub fits : Bool → ℕ → ℕ → List Span → ℕ → ℕ → Bool
fits plus ratio width gs s x = leb (ratio * counts plus width x) s && reach gs (s - ratio * counts plus width x)

-- some prices before those of the later legs
abbrev pub behind : List ℕ → LegPrices → LegPrices
behind ps unpriced = unpriced
behind ps (priced qs) = priced (ps ++ qs)
