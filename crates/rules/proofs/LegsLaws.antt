-- What the legs offer an order: of `legs_offers` the laws of a turn use no more than this.
use mathlib.Core.Path.{◌≡◌, refl, ap}
use mathlib.Core.Bool.{Bool, true, false, true≢false}
use mathlib.Core.List.{List, [], ◌∷◌}
use Prim.Native.Nat.{ℕ, ◌+◌, ◌-◌, ◌≤◌}
use native.Mathlib.Omega.{arith}
use lib.Dec.{eqb}
use Rattle.rules.specs.Basics.{sum, pick, All}
use Rattle.rules.specs.Prices.{most_biased, Derived}
use Rattle.rules.specs.Book.{Entry}
use Rattle.rules.specs.State.{Auction, none, pending, State, contra_price}
use Rattle.rules.specs.Auction.{are_late, up_to_kept, leading}
use Rattle.rules.specs.Turn.{Rank, L, C, N, T, R, legs, key_of, Offer, sizes}
use Rattle.rules.specs.Execution.{Mode, from_queue, going_live, legs_pass, is_within, all_up_to, legs_lead, legs_offers}
use Rattle.rules.specs.Best.{Keyed}
use Rattle.rules.specs.Reached.{Inv}
use Rattle.rules.proofs.TestLaws.{pick_both}
use Rattle.rules.proofs.RecordLaws.{Distinct}
use Rattle.rules.proofs.MarketLaws.{derived_fit}

-- what the legs show an order, by its limit
abbrev pub shown : Entry → Derived → ℕ
shown o d = pick (is_within o d.price) d.units 0

-- the ranks of the legs
abbrev pub is_legs_rank : Rank → Bool
is_legs_rank L = true
is_legs_rank C = false
is_legs_rank N = false
is_legs_rank T = true
is_legs_rank R = false

abbrev is_first : Rank → Bool
is_first L = true
is_first C = false
is_first N = false
is_first T = false
is_first R = false

-- an offer of the legs: before every entry's, and in a rank of theirs
abbrev pub IsOfLegs : Offer → Type 0
IsOfLegs e = (e.contra ≡ legs) × (e.arrival ≡ 0) × (is_legs_rank e.rank ≡ true)

pub legs_each : (m : Mode) (s : State) (o : Entry) → All IsOfLegs (legs_offers m s o)
legs_each m s o = ((refl, refl, refl), ((refl, refl, refl), tt))

pub legs_keyed : (m : Mode) (s : State) (o : Entry) → Inv s → Keyed o.buy (legs_offers m s o)
legs_keyed m s o v = let d : (contra_price s o.buy).price ≤ most_biased = derived_fit o.buy s.strategy.legs s.market v.legs v.quotes v.few in ((refl, d), ((refl, d), tt))

-- one price has two ranks
pub legs_distinct : (m : Mode) (s : State) (o : Entry) → Distinct (legs_offers m s o)
legs_distinct m s o = ((λ c r p. true≢false (ap is_first r), tt), (tt, tt))

-- no more is of rank L than there is
kept_most : (ks : List Derived) (d : Derived) → up_to_kept ks d ≤ d.units
kept_most [] d = omega arith
kept_most (k ∷ ks) d = pick_both (λ n. n ≤ d.units) (eqb k.price d.price) (omega arith) (kept_most ks d)

leading_most : (a : Auction) (buy : Bool) (d : Derived) → leading a buy d ≤ d.units
leading_most none buy d = omega arith
leading_most (pending a) buy d = pick_both (λ n. n ≤ d.units) (are_late a.start buy d.price) (omega arith) (kept_most a.start d)

lead_most : (m : Mode) (a : Auction) (buy : Bool) (d : Derived) → legs_lead m a buy d ≤ d.units
lead_most from_queue a buy d = leading_most a buy d
lead_most going_live a buy d = omega arith
lead_most legs_pass a buy d = omega arith

-- within the limit they come to what the legs show
pub legs_shown : (m : Mode) (s : State) (o : Entry) → sum (sizes (all_up_to (key_of o.buy o.price) (legs_offers m s o))) ≡ shown o (contra_price s o.buy)
legs_shown m s o =
    let d : Derived = contra_price s o.buy in
    let n : ℕ = legs_lead m s.auction o.buy d in
    let h : n ≤ d.units = lead_most m s.auction o.buy d in
    both (is_within o d.price) n d.units h
  where
    both : (b : Bool) (n u : ℕ) → n ≤ u → pick b n 0 + (pick b (u - n) 0 + 0) ≡ pick b u 0
    both true n u h = omega arith
    both false n u h = omega arith
