-- M-106: in every answer of every run the leg prices are the least such prices, or none under the three conditions.
use mathlib.Core.Path.{◌≡◌, refl, ap, ap₂, sym, subst, ◌∙◌}
use mathlib.Core.Bool.{Bool, true, false, ◌&&◌, not, true≢false}
use mathlib.Core.List.{List, [], ◌∷◌, map}
use mathlib.Core.Logic.{◌⊎◌, inl, inr}
use Prim.Native.Nat.{ℕ, suc, ◌+◌, ◌-◌, ◌*◌, ◌≤◌, ◌<◌}
use native.Mathlib.Decide.{ℕ_discrete, dec_lt}
use native.Mathlib.Omega.{arith}
use borrow.Author.Tests.{eq-eqb, ne_eqb, lt-ltb, le-ltb, le-leb, lt-leb}
use lib.Dec.{ltb, leb}
use lib.IntN.{ℤ, pos, negsuc, neg_ℤ, ◌+ℤ◌}
use lib.ListN.{length}
use lib.Seq.{take-append_seam, drop-append_seam}
use Rattle.rules.specs.Basics.{pick, All}
use Rattle.rules.specs.Strategy.{Leg, Strategy, is_b}
use Rattle.rules.specs.Prices.{most_cents, most_biased, cents, biased, Side, Quote, uses_ask, lowered, lower_quote, lower}
use Rattle.rules.specs.Turn.{Contra, legs, entry, Offer, Fill}
use Rattle.rules.specs.LegPrices.{LegPrices, unpriced, priced, Range, ranges_of, part, search, are_near, leg_prices, prices_taken, leg_prices_of, quotes_after, booked}
use Rattle.rules.specs.State.{State, taken}
use Rattle.rules.specs.Book.{Entry}
use Rattle.rules.specs.Messages.{Body, Message}
use Rattle.rules.specs.Refusals.{refusal}
use Rattle.rules.specs.Execution.{Mode, Turn, turn_of, Reply}
use Rattle.rules.specs.Step.{Intake, records_of, prices_of, Answer, take_in, follow, watched, acted, accepted, step}
use Rattle.rules.specs.Run.{Sent, answer_to, answers}
use Rattle.rules.specs.Demand.{Named, Mark, GoodTurn}
use Rattle.rules.specs.Reached.{Inv}
use Rattle.rules.specs.LeastPrices.{standing, bid_after, ask_after, Inside, net_of, Such, Before, Lacks, Wide, Without, Least, Taken, Right, of_legs, AllRight, PricesTold, AllPriced, LegPricesAreLeastOfRules}
use Rattle.rules.proofs.TestLaws.{lt_of, le_of, and_left, and_right, pick_if}
use Rattle.rules.proofs.SignedLaws.{IsDiff, diff_sub, diff_plus, diff_neg, diff_same, cents_diff, cents-biased}
use Rattle.rules.proofs.MarketLaws.{lower_twice}
use Rattle.rules.proofs.BasicsLaws.{all_map}
use Rattle.rules.proofs.ExecuteLaws.{good_turn}
use Rattle.rules.proofs.ServeLaws.{Apart, Made, made_good, Kept}
use Rattle.rules.proofs.ClaimLaws.{First, Owned, owned, mine-append, others-append, first_records_lem}
use Rattle.rules.proofs.IntakeLaws.{Admitted, admitted, take_inv, take_strategy, watched_inv}
use Rattle.rules.proofs.RunLaws.{follow_kept, step_fine, opened_inv}
use Rattle.rules.proofs.SearchLaws.{Solves, NotAbove, Answers, search-answers}

-- ---- the quotes just before a record

-- after n units taken from the legs
abbrev quote_after : Bool → ℕ → Leg → Quote → Quote
quote_after buy n l q = pick (ltb 0 n) (lower_quote (uses_ask buy l) (l.ratio * n) q) q

abbrev after_units : Bool → ℕ → List Leg → List Quote → List Quote
after_units buy n ls qs = pick (ltb 0 n) (lower buy n ls qs) qs

after_none : (buy : Bool) (n : ℕ) (l : Leg) (ls : List Leg) → after_units buy n (l ∷ ls) [] ≡ []
unfolding lower
after_none buy n l ls = go (ltb 0 n)
  where
    go : (b : Bool) → pick {A = List Quote} b [] [] ≡ []
    go true = refl
    go false = refl

after_more : (buy : Bool) (n : ℕ) (l : Leg) (ls : List Leg) (q : Quote) (qs : List Quote) → after_units buy n (l ∷ ls) (q ∷ qs) ≡ quote_after buy n l q ∷ after_units buy n ls qs
unfolding lower
after_more buy n l ls q qs = go (ltb 0 n)
  where
    go : (b : Bool) → pick b (lower_quote (uses_ask buy l) (l.ratio * n) q ∷ lower buy n ls qs) (q ∷ qs) ≡ pick b (lower_quote (uses_ask buy l) (l.ratio * n) q) q ∷ pick b (lower buy n ls qs) qs
    go true = refl
    go false = refl

after-step : (buy : Bool) (n u : ℕ) (ls : List Leg) (qs : List Quote) → 0 < u → lower buy u ls (after_units buy n ls qs) ≡ after_units buy (n + u) ls qs
after-step buy n u ls qs h =
    rw (lt-ltb 0 (n + u) (omega arith)) (
    elim (dec_lt 0 n) [
      | yes l ↦ rw (lt-ltb 0 n l) (lower_twice buy n u ls qs)
      | no k ↦ (
          let z : n ≡ 0 = omega arith in
          let w : 0 + u ≡ u = omega arith in
          rw (z, w)
          )
    ]
    )

-- ---- a side, and a leg's range

left_none : (u : Bool) (c : ℕ) (s : Side) → s.price ≡ standing u 0 c s
left_none true c s = refl
left_none false c s = refl

left_some : (c : ℕ) (s : Side) → (lowered s c).price ≡ pick (leb s.size c) 0 s.price
left_some c s =
    elim (dec_lt c s.size) [
      | yes l ↦ rw (lt-ltb c s.size l, lt-leb s.size c l)
      | no k ↦ rw (le-ltb c s.size (omega arith), le-leb s.size c (omega arith))
    ]

bid_after_lem : (buy : Bool) (n : ℕ) (l : Leg) (q : Quote) → (quote_after buy n l q).bid.price ≡ bid_after buy n l q
bid_after_lem buy n l q =
    elim (dec_lt 0 n) [
      | yes h ↦ rw (lt-ltb 0 n h) (go (uses_ask buy l))
      | no k ↦ (
          let z : n ≡ 0 = omega arith in
          rw z (left_none (not (uses_ask buy l)) (l.ratio * 0) q.bid)
          )
    ]
  where
    go : (u : Bool) → (lower_quote u (l.ratio * n) q).bid.price ≡ pick (not u && leb q.bid.size (l.ratio * n)) 0 q.bid.price
    go true = refl
    go false = left_some (l.ratio * n) q.bid

ask_after_lem : (buy : Bool) (n : ℕ) (l : Leg) (q : Quote) → (quote_after buy n l q).ask.price ≡ ask_after buy n l q
ask_after_lem buy n l q =
    elim (dec_lt 0 n) [
      | yes h ↦ rw (lt-ltb 0 n h) (go (uses_ask buy l))
      | no k ↦ (
          let z : n ≡ 0 = omega arith in
          rw z (left_none (uses_ask buy l) (l.ratio * 0) q.ask)
          )
    ]
  where
    go : (u : Bool) → (lower_quote u (l.ratio * n) q).ask.price ≡ pick (u && leb q.ask.size (l.ratio * n)) 0 q.ask.price
    go true = left_some (l.ratio * n) q.ask
    go false = refl

-- the ranges just before a record
abbrev range_after : Bool → ℕ → Leg → Quote → Range
range_after buy n l q = record { plus = is_b l.side; ratio = l.ratio; bid = bid_after buy n l q; ask = ask_after buy n l q }

abbrev ranges_after : Bool → ℕ → List Leg → List Quote → List Range
ranges_after buy n [] qs = []
ranges_after buy n (l ∷ ls) [] = []
ranges_after buy n (l ∷ ls) (q ∷ qs) = range_after buy n l q ∷ ranges_after buy n ls qs

ranges_after_lem : (buy : Bool) (n : ℕ) (ls : List Leg) (qs : List Quote) → ranges_of ls (after_units buy n ls qs) ≡ ranges_after buy n ls qs
ranges_after_lem buy n [] qs = refl
ranges_after_lem buy n (l ∷ ls) [] = rw (after_none buy n l ls)
ranges_after_lem buy n (l ∷ ls) (q ∷ qs) =
    rw (after_more buy n l ls q qs)
    (ap₂ (λ (g : Range) (gs : List Range). g ∷ gs) (λ i. record { plus = is_b l.side; ratio = l.ratio; bid = bid_after_lem buy n l q i; ask = ask_after_lem buy n l q i }) (ranges_after_lem buy n ls qs))

-- ---- the prices taken

taken-after : (buy : Bool) (n : ℕ) (ls : List Leg) (qs : List Quote) → length qs ≡ length ls → Taken buy n ls qs (prices_taken buy ls (after_units buy n ls qs))
taken-after buy n [] qs e = tt
taken-after buy n (l ∷ ls) [] e = absurd (omega (arith, e))
taken-after buy n (l ∷ ls) (q ∷ qs) e = rw (after_more buy n l ls q qs) (go (uses_ask buy l), taken-after buy n ls qs (omega (arith, e)))
  where
    go : (u : Bool) → (pick u (quote_after buy n l q).ask (quote_after buy n l q).bid).price ≡ pick u (ask_after buy n l q) (bid_after buy n l q)
    go true = ask_after_lem buy n l q
    go false = bid_after_lem buy n l q

-- ---- such prices solve, and what solves is such

-- what prices come to over the B legs, or over the S legs
abbrev sides : Bool → List Leg → List ℕ → ℕ
sides b [] ps = 0
sides b (l ∷ ls) [] = 0
sides b (l ∷ ls) (p ∷ ps) = pick (is_b l.side) (pick b (l.ratio * p) 0) (pick b 0 (l.ratio * p)) + sides b ls ps

net_diff : (ls : List Leg) (ps : List ℕ) → IsDiff (net_of ls ps) (sides true ls ps) (sides false ls ps)
net_diff [] ps = omega arith
net_diff (l ∷ ls) [] = omega arith
net_diff (l ∷ ls) (p ∷ ps) = go (is_b l.side) (net_diff ls ps)
  where
    x : ℕ
    x = l.ratio * p

    go : (b : Bool) → IsDiff (net_of ls ps) (sides true ls ps) (sides false ls ps)
        → IsDiff (pick b (pos x) (neg_ℤ (pos x)) +ℤ net_of ls ps) (pick b (pick true x 0) (pick true 0 x) + sides true ls ps) (pick b (pick false x 0) (pick false 0 x) + sides false ls ps)
    go true rest = diff_plus (pos x) (net_of ls ps) x 0 (sides true ls ps) (sides false ls ps) (omega arith) rest
    go false rest = diff_plus (neg_ℤ (pos x)) (net_of ls ps) 0 x (sides true ls ps) (sides false ls ps) (diff_neg x 0 x (omega arith)) rest

diff_meet : (z : ℤ) (a b c d : ℕ) → IsDiff z a b → IsDiff z c d → a + d ≡ c + b
diff_meet (pos n) a b c d h k = omega arith
diff_meet (negsuc n) a b c d h k = omega arith

module _ (buy : Bool) (n : ℕ) where
  solves-inside : (ls : List Leg) (qs : List Quote) (paid got : ℕ) (ps : List ℕ) → length qs ≡ length ls → Solves (ranges_after buy n ls qs) paid got ps → Inside buy n ls qs ps × (paid + sides true ls ps ≡ got + sides false ls ps)
  solves-inside [] qs paid got [] e h = (tt, omega arith)
  solves-inside [] qs paid got (p ∷ ps) e h = absurd h
  solves-inside (l ∷ ls) [] paid got ps e h = absurd (omega (arith, e))
  solves-inside (l ∷ ls) (q ∷ qs) paid got [] e h = absurd h
  solves-inside (l ∷ ls) (q ∷ qs) paid got (p ∷ ps) e h =
      let g : Range = range_after buy n l q in
      let k = solves-inside ls qs (paid + part true g p) (got + part false g p) ps (omega (arith, e)) h.1 in
      ((h.0, k.0), omega (arith, k.1))

  inside-solves : (ls : List Leg) (qs : List Quote) (paid got : ℕ) (ps : List ℕ) → length qs ≡ length ls → Inside buy n ls qs ps → paid + sides true ls ps ≡ got + sides false ls ps → Solves (ranges_after buy n ls qs) paid got ps
  inside-solves [] qs paid got [] e i h = omega arith
  inside-solves [] qs paid got (p ∷ ps) e i h = i
  inside-solves (l ∷ ls) [] paid got ps e i h = absurd (omega (arith, e))
  inside-solves (l ∷ ls) (q ∷ qs) paid got [] e i h = i
  inside-solves (l ∷ ls) (q ∷ qs) paid got (p ∷ ps) e i h =
      let g : Range = range_after buy n l q in
      (i.0, inside-solves ls qs (paid + part true g p) (got + part false g p) ps (omega (arith, e)) i.1 (omega (arith, h)))

  solves-such : (ls : List Leg) (qs : List Quote) (price : ℕ) (ps : List ℕ) → length qs ≡ length ls → Solves (ranges_after buy n ls qs) most_cents price ps → Such buy n ls qs (cents price) ps
  solves-such ls qs price ps e h =
      let k = solves-inside ls qs most_cents price ps e h in
      (k.0, diff_same (net_of ls ps) (cents price) (sides true ls ps) (sides false ls ps) (net_diff ls ps) (diff_sub price most_cents (sides true ls ps) (sides false ls ps) (omega (arith, k.1))))

  such-solves : (ls : List Leg) (qs : List Quote) (price : ℕ) (ps : List ℕ) → length qs ≡ length ls → Such buy n ls qs (cents price) ps → Solves (ranges_after buy n ls qs) most_cents price ps
  such-solves ls qs price ps e h =
      let d : IsDiff (cents price) (sides true ls ps) (sides false ls ps) = subst (λ (z : ℤ). IsDiff z (sides true ls ps) (sides false ls ps)) h.1 (net_diff ls ps) in
      inside-solves ls qs most_cents price ps e h.0 (omega (arith, diff_meet (cents price) (sides true ls ps) (sides false ls ps) price most_cents d (cents_diff price)))

  -- ---- the conditions

  near-not : (ls : List Leg) (qs : List Quote) → are_near (ranges_after buy n ls qs) ≡ false → Lacks buy n ls qs ⊎ Wide buy n ls qs
  near-not [] qs h = absurd (true≢false h)
  near-not (l ∷ ls) [] h = absurd (true≢false h)
  near-not (l ∷ ls) (q ∷ qs) h =
      let b : ℕ = bid_after buy n l q in
      let a : ℕ = ask_after buy n l q in
      elim (dec_lt 0 b) [
        | no x ↦ inl (inl (inl (omega arith)))
        | yes x ↦
            elim (dec_lt 0 a) [
              | no y ↦ inl (inl (inr (omega arith)))
              | yes y ↦
                  elim (dec_lt (b + 50) a) [
                    | yes z ↦ inr (inl z)
                    | no z ↦ rest (near-not ls qs (rw (lt-ltb 0 b x, lt-ltb 0 a y, le-leb a (b + 50) (omega arith)) at h))
                  ]
            ]
      ]
    where
      rest : Lacks buy n ls qs ⊎ Wide buy n ls qs → Lacks buy n (l ∷ ls) (q ∷ qs) ⊎ Wide buy n (l ∷ ls) (q ∷ qs)
      rest (inl k) = inl (inr k)
      rest (inr k) = inr (inr k)

  near_parts : (g : Range) (gs : List Range) → are_near (g ∷ gs) ≡ true → (0 < g.bid) × (0 < g.ask) × (g.ask ≤ g.bid + 50) × (are_near gs ≡ true)
  near_parts g gs h =
      let b : Bool = ltb 0 g.bid in
      let a : Bool = ltb 0 g.ask in
      let w : Bool = leb g.ask (g.bid + 50) in
      let r : Bool = are_near gs in (
        lt_of 0 g.bid (and_left b a (and_left (b && a) w (and_left (b && a && w) r h))),
        lt_of 0 g.ask (and_right b a (and_left (b && a) w (and_left (b && a && w) r h))),
        le_of g.ask (g.bid + 50) (and_right (b && a) w (and_left (b && a && w) r h)),
        and_right (b && a && w) r h,
      )

  near-so : (ls : List Leg) (qs : List Quote) → are_near (ranges_after buy n ls qs) ≡ true → Lacks buy n ls qs ⊎ Wide buy n ls qs → ⊥
  near-so [] qs h (inl k) = k
  near-so [] qs h (inr k) = k
  near-so (l ∷ ls) [] h (inl k) = k
  near-so (l ∷ ls) [] h (inr k) = k
  near-so (l ∷ ls) (q ∷ qs) h (inl (inl (inl e))) = omega (arith, (near_parts (range_after buy n l q) (ranges_after buy n ls qs) h).0)
  near-so (l ∷ ls) (q ∷ qs) h (inl (inl (inr e))) = omega (arith, (near_parts (range_after buy n l q) (ranges_after buy n ls qs) h).1)
  near-so (l ∷ ls) (q ∷ qs) h (inl (inr e)) = near-so ls qs (near_parts (range_after buy n l q) (ranges_after buy n ls qs) h).3 (inl e)
  near-so (l ∷ ls) (q ∷ qs) h (inr (inl e)) = omega (arith, (near_parts (range_after buy n l q) (ranges_after buy n ls qs) h).2)
  near-so (l ∷ ls) (q ∷ qs) h (inr (inr e)) = near-so ls qs (near_parts (range_after buy n l q) (ranges_after buy n ls qs) h).3 (inr e)

  -- ---- what is said of a record

  not-before : (ps rs : List ℕ) → NotAbove ps rs → Before rs ps → ⊥
  not-before [] [] h b = b
  not-before [] (r ∷ rs) h b = b
  not-before (p ∷ ps) [] h b = b
  not-before (p ∷ ps) (r ∷ rs) (inl h) (inl b) = omega arith
  not-before (p ∷ ps) (r ∷ rs) (inl h) (inr b) = omega (arith, b.0)
  not-before (p ∷ ps) (r ∷ rs) (inr h) (inl b) = omega (arith, h.0)
  not-before (p ∷ ps) (r ∷ rs) (inr h) (inr b) = not-before ps rs h.1 b.1

  answered-least : (ls : List Leg) (qs : List Quote) (price : ℕ) (r : LegPrices) → length qs ≡ length ls → are_near (ranges_after buy n ls qs) ≡ true → Answers (Solves (ranges_after buy n ls qs) most_cents price) r → Least buy n ls qs (cents price) r
  answered-least ls qs price unpriced e h a = inr (inr (λ ps s. a ps (such-solves ls qs price ps e s)))
  answered-least ls qs price (priced ps) e h a = (none, such, λ rs s. not-before ps rs (a.1 rs (such-solves ls qs price rs e s)))
    where
      such : Such buy n ls qs (cents price) ps
      such = solves-such ls qs price ps e a.0

      none : Without buy n ls qs (cents price) → ⊥
      none (inl k) = near-so ls qs h (inl k)
      none (inr (inl k)) = near-so ls qs h (inr k)
      none (inr (inr k)) = k ps such

  least-prices : (ls : List Leg) (qs : List Quote) (price : ℕ) → length qs ≡ length ls → Least buy n ls qs (cents price) (leg_prices (ranges_after buy n ls qs) price)
  unfolding leg_prices
  least-prices ls qs price e =
      let gs : List Range = ranges_after buy n ls qs in
      pick_if (Least buy n ls qs (cents price)) (are_near gs) (λ h. answered-least ls qs price (search gs most_cents price) e h (search-answers gs most_cents price)) (λ h. wide (near-not ls qs h))
    where
      wide : Lacks buy n ls qs ⊎ Wide buy n ls qs → Without buy n ls qs (cents price)
      wide (inl k) = inl k
      wide (inr k) = inr (inl k)

-- ---- the records of a turn

-- it gives units, at a price that can be held
abbrev Fair : Fill → Type 0
Fair f = (0 < f.units) × (f.price ≡ cents (biased f.price))

named_fair : (f : Fill) (es : List Offer) → Named f es → f.price ≡ cents (biased f.price)
named_fair f [] h = absurd h
named_fair f (e ∷ es) (inl h) = h.2 ∙ sym (ap cents (ap biased h.2 ∙ cents-biased e.price))
named_fair f (e ∷ es) (inr h) = named_fair f es h

module _ (buy : Bool) (ls : List Leg) (qs : List Quote) (same : length qs ≡ length ls) where
  booked-right : (n : ℕ) (fs : List Fill) → All Fair fs → AllRight buy n ls qs fs (booked buy ls (after_units buy n ls qs) fs)
  unfolding booked
  booked-right n [] h = tt
  booked-right n (f ∷ fs) h = go f.contra (λ m. booked-right m fs h.1)
    where
      now : List Quote
      now = after_units buy n ls qs

      go : (c : Contra) → ((m : ℕ) → AllRight buy m ls qs fs (booked buy ls (after_units buy m ls qs) fs))
          → Right buy n ls qs c f.price (leg_prices_of buy ls now c (biased f.price)) × AllRight buy (n + of_legs c f.units) ls qs fs (booked buy ls (quotes_after buy ls now c f.units) fs)
      go legs rest = (taken-after buy n ls qs same, rw (after-step buy n f.units ls qs h.0.0) (rest (n + f.units)))
      go (entry i) rest =
          let z : n + 0 ≡ n = omega arith in (
            subst (λ (p : ℤ). Least buy n ls qs p (leg_prices (ranges_of ls now) (biased f.price))) (sym h.0.1)
                (rw (ranges_after_lem buy n ls qs) (least-prices buy n ls qs (biased f.price) same)),
            rw z (rest n),
          )

booked-length : (buy : Bool) (ls : List Leg) (qs : List Quote) (fs : List Fill) → length (booked buy ls qs fs) ≡ length fs
unfolding booked
booked-length buy ls qs [] = refl
booked-length buy ls qs (f ∷ fs) = ap suc (booked-length buy ls (quotes_after buy ls qs f.contra f.units) fs)

-- what is asked of a turn
record Booked (ls : List Leg) (t : Turn) : Type 0 where
  pub right : AllRight t.order.buy 0 ls t.market t.records t.prices
  pub length_same : length t.prices ≡ length t.records

turn-booked : (m : Mode) (s : State) (o : Entry) → Inv s → o.price ≤ most_biased → Booked s.strategy.legs (turn_of m s o)
unfolding turn_of
turn-booked m s o v l =
    let t : Turn = turn_of m s o in
    let g : GoodTurn (s.clock.next - 1) t t.records = good_turn m s o v l in
    record {
      right = booked-right o.buy s.strategy.legs s.market v.each 0 t.records
          (all_map (Mark (s.clock.next - 1) t) Fair (λ f k. (k.some, named_fair f t.offers k.named)) t.records g.marks);
      length_same = booked-length o.buy s.strategy.legs s.market t.records;
    }

made_booked : (s : State) (t : Turn) → Made s t → Booked s.strategy.legs t
made_booked s t m =
    subst (λ (o : Strategy). Booked o.legs t) m.strategy
    (subst (Booked m.state.strategy.legs) m.turn (turn-booked m.mode m.state m.order m.inv m.limit))

-- ---- an answer

told-owned : (ls : List Leg) (ts : List Turn) → All (Booked ls) ts → All Owned ts → Apart ts → PricesTold ls ts (records_of ts) (prices_of ts)
unfolding records_of prices_of
told-owned ls [] b o a = refl
told-owned ls (t ∷ ts) b o a =
    let f : First t.order.id (records_of ts) = first_records_lem t.order.id ts o.1 a.0 in
    rw (
      mine-append t.order.id t.records (records_of ts) o.0 f,
      others-append t.order.id t.records (records_of ts) o.0 f,
      ← b.0.length_same,
      take-append_seam t.prices (prices_of ts),
      drop-append_seam t.prices (prices_of ts),
    ) (b.0.right, told-owned ls ts b.1 o.1 a.1)

kept_told : (s : State) (r : Reply) → Kept s r → PricesTold s.strategy.legs r.turns (records_of r.turns) (prices_of r.turns)
kept_told s r k =
    told-owned s.strategy.legs r.turns (all_map (Made s) (Booked s.strategy.legs) (made_booked s) r.turns k.made)
    (all_map (Made s) Owned (λ t m. owned (s.clock.next - 1) t (made_good s t m)) r.turns k.made) k.apart

-- the leg prices of an answer
abbrev Tells : List Leg → Answer → Type 0
Tells ls a = PricesTold ls a.turns a.fills a.prices

acted-told : (s : State) (b : Body) → Admitted s b → Tells s.strategy.legs (acted s b)
unfolding acted
acted-told s b a =
    let i : Intake = take_in s b in
    let r : State = watched b i.state in
    subst (λ (o : Strategy). Tells o.legs (acted s b)) (take_strategy s b) (kept_told r (follow r i.act) (follow_kept r i.act (watched_inv b i.state (take_inv s b a))))

step-told : (s : State) (m : Message) (room : ℕ) → Inv s → Tells s.strategy.legs (step s m room)
unfolding step accepted
step-told s m room v =
    elim (ℕ_discrete (refusal s m room) 0) [
      | yes e ↦ rw (eq-eqb (refusal s m room) 0 e) (acted-told (taken s m.time) m.body (admitted s m room v e))
      | no n ↦ rw (ne_eqb (refusal s m room) 0 n) refl
    ]

-- ---- a list of messages

run-priced : (s : State) (ms : List Sent) → Inv s → AllPriced s ms (map (λ a. a.fills) (answers s ms)) (map (λ a. a.prices) (answers s ms))
unfolding answers
run-priced s [] v = tt
run-priced s (m ∷ ms) v = (step-told s m.message m.room v, run-priced (answer_to s m).state ms (step_fine s m.message m.room v).inv)

pub leg_prices_are_least_of_rules : LegPricesAreLeastOfRules
unfolding LegPricesAreLeastOfRules
leg_prices_are_least_of_rules o s h ms = run-priced s ms (opened_inv o s h)
