-- M-106's promise: the leg prices of every record are such prices, none such are before them, and none are said exactly under the three conditions.
use Rattle.std.specs.Prelude.{◌≡◌, Bool, ◌&&◌, not, List, [], ◌∷◌, map, ◌⊎◌, ℕ, ◌+◌, ◌*◌, ◌≤◌, ◌<◌, leb, ltb, ℤ, pos, neg_ℤ, ◌+ℤ◌, length, take, drop}
use Rattle.rules.specs.Basics.{pick}
use Rattle.rules.specs.Strategy.{Leg, Strategy, is_b}
use Rattle.rules.specs.Prices.{Side, Quote, uses_ask}
use Rattle.rules.specs.State.{State}
use Rattle.rules.specs.Turn.{Contra, legs, entry, Fill}
use Rattle.rules.specs.LegPrices.{LegPrices, unpriced, priced}
use Rattle.rules.specs.Execution.{Turn}
use Rattle.rules.specs.Run.{started, opening, Sent, answer_to, answers}
use Rattle.rules.specs.Demand.{mine, others}

-- ---- "that leg's local bid and ask as they stood just before the fill"

-- the price of a side, 0 for absent, from which n units were taken if it was used: they were its contracts c, or more
abbrev pub standing : Bool → ℕ → ℕ → Side → ℕ
standing used n c s = pick (used && (ltb 0 n && leb s.size c)) 0 s.price

-- a leg's bid and ask after n units were taken from the legs for a buyer or a seller
abbrev pub bid_after : Bool → ℕ → Leg → Quote → ℕ
bid_after buy n l q = standing (not (uses_ask buy l)) n (l.ratio * n) q.bid

abbrev pub ask_after : Bool → ℕ → Leg → Quote → ℕ
ask_after buy n l q = standing (uses_ask buy l) n (l.ratio * n) q.ask

-- ---- such prices

-- "a price per leg, inside that leg's local bid and ask .., ends included"
abbrev pub Inside : Bool → ℕ → List Leg → List Quote → List ℕ → Type 0
Inside buy n [] qs [] = Unit {0}
Inside buy n [] qs (p ∷ ps) = ⊥
Inside buy n (l ∷ ls) qs [] = ⊥
Inside buy n (l ∷ ls) [] (p ∷ ps) = ⊥
Inside buy n (l ∷ ls) (q ∷ qs) (p ∷ ps) = ((bid_after buy n l q ≤ p) × (p ≤ ask_after buy n l q)) × Inside buy n ls qs ps

-- their net: "the sum of ratio × price over B legs less the same over S legs"
abbrev pub net_of : List Leg → List ℕ → ℤ
net_of [] ps = pos 0
net_of (l ∷ ls) [] = pos 0
net_of (l ∷ ls) (p ∷ ps) = pick (is_b l.side) (pos (l.ratio * p)) (neg_ℤ (pos (l.ratio * p))) +ℤ net_of ls ps

-- "whose net is exactly the fill's price"
abbrev pub Such : Bool → ℕ → List Leg → List Quote → ℤ → List ℕ → Type 0
Such buy n ls qs price ps = Inside buy n ls qs ps × (net_of ls ps ≡ price)

-- "the lowest price on leg 0 .., then on leg 1, and so on": lower at the first leg where they differ
abbrev pub Before : List ℕ → List ℕ → Type 0
Before [] ps = ⊥
Before (q ∷ qs) [] = ⊥
Before (q ∷ qs) (p ∷ ps) = (q < p) ⊎ ((q ≡ p) × Before qs ps)

-- ---- "'No leg prices' is said exactly if .."

-- "a leg lacks a side"
abbrev pub Lacks : Bool → ℕ → List Leg → List Quote → Type 0
Lacks buy n [] qs = ⊥
Lacks buy n (l ∷ ls) [] = ⊥
Lacks buy n (l ∷ ls) (q ∷ qs) = ((bid_after buy n l q ≡ 0) ⊎ (ask_after buy n l q ≡ 0)) ⊎ Lacks buy n ls qs

-- "a leg's ask is more than 50 cents above its bid"
abbrev pub Wide : Bool → ℕ → List Leg → List Quote → Type 0
Wide buy n [] qs = ⊥
Wide buy n (l ∷ ls) [] = ⊥
Wide buy n (l ∷ ls) (q ∷ qs) = (bid_after buy n l q + 50 < ask_after buy n l q) ⊎ Wide buy n ls qs

-- "or no such prices exist"
abbrev pub Without : Bool → ℕ → List Leg → List Quote → ℤ → Type 0
Without buy n ls qs price = Lacks buy n ls qs ⊎ (Wide buy n ls qs ⊎ ((ps : List ℕ) → Such buy n ls qs price ps → ⊥))

-- ---- the records of a turn

-- what is said of "a fill against an order or response"
abbrev pub Least : Bool → ℕ → List Leg → List Quote → ℤ → LegPrices → Type 0
Least buy n ls qs price unpriced = Without buy n ls qs price
Least buy n ls qs price (priced ps) = (Without buy n ls qs price → ⊥) × Such buy n ls qs price ps × ((rs : List ℕ) → Such buy n ls qs price rs → Before rs ps → ⊥)

-- the price of each leg side used
abbrev pub Taken : Bool → ℕ → List Leg → List Quote → List ℕ → Type 0
Taken buy n [] qs [] = Unit {0}
Taken buy n [] qs (p ∷ ps) = ⊥
Taken buy n (l ∷ ls) qs [] = ⊥
Taken buy n (l ∷ ls) [] (p ∷ ps) = ⊥
Taken buy n (l ∷ ls) (q ∷ qs) (p ∷ ps) = (p ≡ pick (uses_ask buy l) (ask_after buy n l q) (bid_after buy n l q)) × Taken buy n ls qs ps

-- "Fills against legs show the prices taken"
abbrev pub Shown : Bool → ℕ → List Leg → List Quote → LegPrices → Type 0
Shown buy n ls qs unpriced = ⊥
Shown buy n ls qs (priced ps) = Taken buy n ls qs ps

-- a record with this contra and price, n units having been taken from the legs by those before it
abbrev pub Right : Bool → ℕ → List Leg → List Quote → Contra → ℤ → LegPrices → Type 0
Right buy n ls qs legs price p = Shown buy n ls qs p
Right buy n ls qs (entry i) price p = Least buy n ls qs price p

-- the units that a record takes from the legs
abbrev pub of_legs : Contra → ℕ → ℕ
of_legs legs n = n
of_legs (entry i) n = 0

-- the records of a turn in their sequence, by the quotes as it begins
abbrev pub AllRight : Bool → ℕ → List Leg → List Quote → List Fill → List LegPrices → Type 0
AllRight buy n ls qs [] [] = Unit {0}
AllRight buy n ls qs [] (p ∷ ps) = ⊥
AllRight buy n ls qs (f ∷ fs) [] = ⊥
AllRight buy n ls qs (f ∷ fs) (p ∷ ps) = Right buy n ls qs f.contra f.price p × AllRight buy (n + of_legs f.contra f.units) ls qs fs ps

-- an outcome's records go to its turns as demand 3 gives them, and their leg prices with them; none remain
abbrev pub PricesTold : List Leg → List Turn → List Fill → List LegPrices → Type 0
PricesTold ls [] rs ps = ps ≡ []
PricesTold ls (t ∷ ts) rs ps =
    let i = t.order.id in
    let n = length (mine i rs) in
    AllRight t.order.buy 0 ls t.market (mine i rs) (take n ps) × PricesTold ls ts (others i rs) (drop n ps)

-- ---- a list of messages

-- the records of each answer and their leg prices, given to the turns of the replay
abbrev pub AllPriced : State → List Sent → List (List Fill) → List (List LegPrices) → Type 0
AllPriced s [] [] [] = Unit {0}
AllPriced s [] [] (ps ∷ pss) = ⊥
AllPriced s [] (rs ∷ rss) pss = ⊥
AllPriced s (m ∷ ms) [] pss = ⊥
AllPriced s (m ∷ ms) (rs ∷ rss) [] = ⊥
AllPriced s (m ∷ ms) (rs ∷ rss) (ps ∷ pss) = PricesTold s.strategy.legs (answer_to s m).turns rs ps × AllPriced (answer_to s m).state ms rss pss

-- for every accepted opening and every list of messages, refused ones included: the rules' own answers
unfoldable pub LegPricesAreLeastOfRules : Type 0
LegPricesAreLeastOfRules =
    (o : Strategy) (s : State) → opening o ≡ started s → (ms : List Sent) → AllPriced s ms (map (λ a. a.fills) (answers s ms)) (map (λ a. a.prices) (answers s ms))
