-- A fill lowers what the legs show: no more than before, and at the same price while there is something.
use mathlib.Core.Path.{◌≡◌, refl, ap₂}
use mathlib.Core.Bool.{Bool, true, false}
use mathlib.Core.List.{List, [], ◌∷◌}
use Prim.Native.Nat.{ℕ, ◌+◌, ◌-◌, ◌*◌, ◌≤◌, ◌<◌, min}
use native.Mathlib.Nat.{div-mul-le_self, le-div_iff_mul-le, pos_of_div-pos}
use native.Mathlib.Omega.{arith}
use lib.Dec.{ltb}
use Rattle.rules.specs.Basics.{pick}
use Rattle.rules.specs.Strategy.{Leg}
use Rattle.rules.specs.Prices.{Side, Quote, used, uses_ask, over, units_shown, least_from, Derived, derived, lowered, lower_quote, lower, most_cents}
use Rattle.rules.specs.State.{State, contra_price}
use Rattle.rules.specs.Execution.{Mode, Turn, legs_gave, executed}
use Rattle.rules.specs.Reached.{FitLegs}
use Rattle.rules.proofs.TestLaws.{pick_both}

-- the second side shows no more than the first, and at its price if anything
abbrev LessSide : Side → Side → Type 0
LessSide s t = (t.size ≤ s.size) × (0 < t.size → t.price ≡ s.price)

-- on both sides
abbrev LessQuote : Quote → Quote → Type 0
LessQuote q r = LessSide q.bid r.bid × LessSide q.ask r.ask

-- quote by quote
data Less : List Quote → List Quote → Type 0 where
  neither : Less [] []
  both : {q r : Quote} {qs rs : List Quote} → LessQuote q r → Less qs rs → Less (q ∷ qs) (r ∷ rs)

-- the same of derived prices
abbrev pub LessDerived : Derived → Derived → Type 0
LessDerived d c = (c.units ≤ d.units) × (0 < c.units → c.price ≡ d.price)

-- ---- a fill

side_itself : (s : Side) → LessSide s s
side_itself s = (omega arith, λ h. refl)

less_itself : (qs : List Quote) → Less qs qs
less_itself [] = neither
less_itself (q ∷ qs) = both (side_itself q.bid, side_itself q.ask) (less_itself qs)

lowered_less : (s : Side) (n : ℕ) → LessSide s (lowered s n)
lowered_less s n = pick_both (LessSide s) (ltb n s.size) (omega arith, λ h. refl) (omega arith, λ h. absurd (omega arith))

lower_quote_less : (b : Bool) (n : ℕ) (q : Quote) → LessQuote q (lower_quote b n q)
lower_quote_less true n q = (side_itself q.bid, lowered_less q.ask n)
lower_quote_less false n q = (lowered_less q.bid n, side_itself q.ask)

lower_less : (ask : Bool) (n : ℕ) (ls : List Leg) (qs : List Quote) → Less qs (lower ask n ls qs)
unfolding lower
lower_less ask n [] qs = less_itself qs
lower_less ask n (l ∷ ls) [] = neither
lower_less ask n (l ∷ ls) (q ∷ qs) = both (lower_quote_less (uses_ask ask l) (l.ratio * n) q) (lower_less ask n ls qs)

-- ---- the derived price

used_less : (b : Bool) (q r : Quote) → LessQuote q r → LessSide (pick b q.ask q.bid) (pick b r.ask r.bid)
used_less true q r h = h.1
used_less false q r h = h.0

units_most : (ask : Bool) (l : Leg) (q r : Quote) → 1 ≤ l.ratio → LessQuote q r → units_shown ask l r ≤ units_shown ask l q
units_most ask l q r f h =
    (le-div_iff_mul-le {k = l.ratio} {x = units_shown ask l r} {y = (used ask l q).size} (omega arith)).1 (omega (arith, div-mul-le_self (used ask l r).size l.ratio, (used_less (uses_ask ask l) q r h).0))

price_same : (ask : Bool) (l : Leg) (q r : Quote) → LessQuote q r → 0 < units_shown ask l r → (used ask l r).price ≡ (used ask l q).price
price_same ask l q r h u = (used_less (uses_ask ask l) q r h).1 (pos_of_div-pos l.ratio u)

from_le : (a : ℕ) (ask : Bool) (ls : List Leg) (qs : List Quote) → least_from a ask ls qs ≤ a
from_le a ask [] qs = omega arith
from_le a ask (l ∷ ls) [] = omega arith
from_le a ask (l ∷ ls) (q ∷ qs) = omega (arith, from_le (min a (units_shown ask l q)) ask ls qs)

from_most : (a b : ℕ) (ask : Bool) (ls : List Leg) {qs rs : List Quote} → FitLegs ls → Less qs rs → b ≤ a → least_from b ask ls rs ≤ least_from a ask ls qs
from_most a b ask [] f h k = k
from_most a b ask (l ∷ ls) f neither k = omega arith
from_most a b ask (l ∷ ls) f (both {q} {r} p h) k =
    from_most (min a (units_shown ask l q)) (min b (units_shown ask l r)) ask ls f.1 h (omega (arith, units_most ask l q r f.0.0 p))

over-same : (b : Bool) (a : ℕ) (ask : Bool) (ls : List Leg) {qs rs : List Quote} → Less qs rs → 0 < least_from a ask ls rs → over b (λ l q. (used ask l q).price) ls rs ≡ over b (λ l q. (used ask l q).price) ls qs
over-same b a ask [] h k = refl
over-same b a ask (l ∷ ls) neither k = refl
over-same b a ask (l ∷ ls) (both {q} {r} {qs} {rs} p h) k =
    let u : 0 < units_shown ask l r = omega (arith, from_le (min a (units_shown ask l r)) ask ls rs) in
    rw (price_same ask l q r p u, over-same b (min a (units_shown ask l r)) ask ls h k)

derived_less : (ask : Bool) (ls : List Leg) {qs rs : List Quote} → FitLegs ls → Less qs rs → LessDerived (derived ask ls qs) (derived ask ls rs)
unfolding derived
derived_less ask [] f h = (omega arith, λ k. refl)
derived_less ask (l ∷ ls) f neither = (omega arith, λ k. refl)
derived_less ask (l ∷ ls) f (both {q} {r} {qs} {rs} p h) =
    let u : ℕ = units_shown ask l r in
    let e : min u u ≡ u = omega arith in
    let same : (b : Bool) → 0 < least_from u ask ls rs → over b (λ l q. (used ask l q).price) (l ∷ ls) (r ∷ rs) ≡ over b (λ l q. (used ask l q).price) (l ∷ ls) (q ∷ qs) =
    λ b k. over-same b u ask (l ∷ ls) {qs = q ∷ qs} {rs = r ∷ rs} (both p h) (rw e k) in
    (from_most (units_shown ask l q) u ask ls f.1 h (units_most ask l q r f.0.0 p), λ k. ap₂ (λ (x y : ℕ). most_cents + x - y) (same true k) (same false k))

-- a turn never raises what the legs show
pub executed_less : (m : Mode) (s : State) (t : Turn) (buy : Bool) → FitLegs s.strategy.legs → LessDerived (contra_price s buy) (contra_price (executed m s t) buy)
unfolding executed
executed_less m s t buy f = derived_less buy s.strategy.legs f (lower_less t.order.buy (legs_gave m s t) s.strategy.legs s.market)
