-- Of the ways to fill an order from one interest one alone is best.
use mathlib.Core.Path.{◌≡◌, refl, ap, ap₂, sym, ◌∙◌, subst}
use mathlib.Core.Bool.{true, true≢false}
use mathlib.Core.List.{List, [], ◌∷◌, map}
use mathlib.Core.Logic.{◌⊎◌, inl, inr}
use Prim.Native.Nat.{ℕ, ◌+◌, ◌-◌, ◌*◌, ◌/◌, ◌≤◌, ◌<◌, min}
use native.Mathlib.Decide.{dec_lt}
use native.Mathlib.Omega.{arith}
use borrow.Author.Tests.{eq-eqb, lt-ltb}
use Rattle.rules.specs.Basics.{sum, Below, All, Pairwise}
use Rattle.rules.specs.Turn.{Rank, L, C, N, T, R, Offer, tier, sizes_at, sizes}
use Rattle.rules.specs.Execution.{all_up_to}
use Rattle.rules.specs.Sharing.{RoundedTo, LeftRule}
use Rattle.rules.specs.Best.{Taker, Each, Any2, InLimit, is_before, is_beside, units_where, total_at, amount_at, is_shared_rank, Sharing, Best, Keyed}
use Rattle.rules.specs.Arrival.{Arrivals}
use Rattle.rules.proofs.BasicsLaws.{all_map, pairwise_map}
use Rattle.rules.proofs.TurnLaws.{before, each_map, each_both}
use Rattle.rules.proofs.BestLaws.{KeyedAt, before-tier, beside-tier, total_tier, units-before, any-map}
use Rattle.rules.proofs.LegsLaws.{is_legs_rank}
use Rattle.rules.proofs.StandingLaws.{Later, tier-same}

-- ---- two ways, offer by offer

-- an offer, and what each of two ways gives it
record Slot : Type 0 where
  pub offer : Offer
  pub one : ℕ
  pub two : ℕ

abbrev slots : List Offer → List ℕ → List ℕ → List Slot
slots [] gs hs = []
slots (e ∷ es) [] hs = []
slots (e ∷ es) (g ∷ gs) [] = []
slots (e ∷ es) (g ∷ gs) (h ∷ hs) = record { offer = e; one = g; two = h } ∷ slots es gs hs

ways_back : (es : List Offer) (gs hs : List ℕ) → Below gs (sizes es) → Below hs (sizes es) → (map (λ t. t.one) (slots es gs hs) ≡ gs) × (map (λ t. t.two) (slots es gs hs) ≡ hs)
ways_back [] [] [] b c = (refl, refl)
ways_back [] [] (h ∷ hs) b c = absurd c
ways_back [] (g ∷ gs) hs b c = absurd b
ways_back (e ∷ es) [] hs b c = absurd b
ways_back (e ∷ es) (g ∷ gs) [] b c = absurd c
ways_back (e ∷ es) (g ∷ gs) (h ∷ hs) b c =
    let (p, q) = ways_back es gs hs b.1 c.1 in
    (ap (λ (l : List ℕ). g ∷ l) p, ap (λ (l : List ℕ). h ∷ l) q)

all_slots : (K : Offer → Type 0) (P Q : Offer → ℕ → Type 0) (es : List Offer) (gs hs : List ℕ) → All K es → Each P es gs → Each Q es hs
    → All (λ t. K t.offer × P t.offer t.one × Q t.offer t.two) (slots es gs hs)
all_slots K P Q [] gs hs k p q = tt
all_slots K P Q (e ∷ es) [] hs k p q = tt
all_slots K P Q (e ∷ es) (g ∷ gs) [] k p q = tt
all_slots K P Q (e ∷ es) (g ∷ gs) (h ∷ hs) k p q = ((k.0, p.0, q.0), all_slots K P Q es gs hs k.1 p.1 q.1)

-- of two offers, either first
abbrev Both : (Offer → ℕ → Offer → ℕ → Type 0) → Offer → ℕ → Offer → ℕ → Type 0
Both P e g f h = P e g f h × P f h e g

module _ (P : Offer → ℕ → Offer → ℕ → Type 0) where
  any_head : (e : Offer) (g : ℕ) (es : List Offer) (gs : List ℕ) → Any2 P (e ∷ es) (g ∷ gs) → Each (Both P e g) es gs
  any_head e g es gs p =
      each_both (P e g) (λ f h. P f h e g) es gs p.0.1 (each_map (λ f h. P f h e g × Each (P f h) es gs) (λ f h. P f h e g) (λ f h q. q.0) es gs p.1)

  any-tail : (e : Offer) (g : ℕ) (es : List Offer) (gs : List ℕ) → Any2 P (e ∷ es) (g ∷ gs) → Any2 P es gs
  any-tail e g es gs p = each_map (λ f h. P f h e g × Each (P f h) es gs) (λ f h. Each (P f h) es gs) (λ f h q. q.1) es gs p.1

  -- two slots: what their offers are to each other, and what the rule P says of each way
  abbrev Pair : (Offer → Offer → Type 0) → Slot → Slot → Type 0
  Pair B t u = B t.offer u.offer × Both P t.offer t.one u.offer u.one × Both P t.offer t.two u.offer u.two

  pair-slots : (B : Offer → Offer → Type 0) (es : List Offer) (gs hs : List ℕ) → Pairwise B es → Any2 P es gs → Any2 P es hs → Pairwise (Pair B) (slots es gs hs)
  pair-slots B [] gs hs r p q = tt
  pair-slots B (e ∷ es) [] hs r p q = tt
  pair-slots B (e ∷ es) (g ∷ gs) [] r p q = tt
  pair-slots B (e ∷ es) (g ∷ gs) (h ∷ hs) r p q = (
    all_slots (B e) (Both P e g) (Both P e h) es gs hs r.0 (any_head e g es gs p) (any_head e h es hs q),
    pair-slots B es gs hs r.1 (any-tail e g es gs p) (any-tail e h es hs q),
  )

any_both : (P Q : Offer → ℕ → Offer → ℕ → Type 0) (es : List Offer) (gs : List ℕ) → Any2 P es gs → Any2 Q es gs → Any2 (λ e g f h. P e g f h × Q e g f h) es gs
any_both P Q es gs p q =
    each_map (λ e g. Each (P e g) es gs × Each (Q e g) es gs) (λ e g. Each (λ f h. P e g f h × Q e g f h) es gs) (λ e g r. each_both (P e g) (Q e g) es gs r.0 r.1) es gs
    (each_both (λ e g. Each (P e g) es gs) (λ e g. Each (Q e g) es gs) es gs p q)

-- ---- two ways of which neither gives one offer less and another more are the same

-- of two slots
abbrev Steady : Slot → Slot → Type 0
Steady t u = (t.one < t.two → u.two < u.one → ⊥) × (t.two < t.one → u.one < u.two → ⊥)

not_above : (x y : ℕ) → (y < x → ⊥) → x ≤ y
not_above x y h = elim (dec_lt y x) [ yes l ↦ absurd (h l) | no n ↦ omega arith ]

one_way : (ts : List Slot) → Pairwise Steady ts → All (λ t. t.one ≤ t.two) ts ⊎ All (λ t. t.two ≤ t.one) ts
one_way [] p = inl tt
one_way (t ∷ ts) p =
    elim (dec_lt t.one t.two) [
      | yes l ↦ inl (omega arith, all_map (Steady t) (λ u. u.one ≤ u.two) (λ u s. not_above u.one u.two (s.0 l)) ts p.0)
      | no n ↦
          elim (dec_lt t.two t.one) [
            | yes l ↦ inr (omega arith, all_map (Steady t) (λ u. u.two ≤ u.one) (λ u s. not_above u.two u.one (s.1 l)) ts p.0)
            | no m ↦
                elim (one_way ts p.1) [
                  | inl q ↦ inl (omega arith, q)
                  | inr q ↦ inr (omega arith, q)
                ]
          ]
    ]

module _ (x y : Slot → ℕ) where
  sum_below : (ts : List Slot) → All (λ t. x t ≤ y t) ts → sum (map x ts) ≤ sum (map y ts)
  sum_below [] p = omega arith
  sum_below (t ∷ ts) p = omega (arith, p.0, sum_below ts p.1)

  level : (ts : List Slot) → All (λ t. x t ≤ y t) ts → sum (map y ts) ≤ sum (map x ts) → map x ts ≡ map y ts
  level [] p s = refl
  level (t ∷ ts) p s = ap₂ (λ (g : ℕ) (l : List ℕ). g ∷ l) (omega (arith, p.0, sum_below ts p.1)) (level ts p.1 (omega (arith, p.0, sum_below ts p.1)))

same_ways : (ts : List Slot) → Pairwise Steady ts → sum (map (λ t. t.one) ts) ≡ sum (map (λ t. t.two) ts) → map (λ t. t.one) ts ≡ map (λ t. t.two) ts
same_ways ts p s =
    elim (one_way ts p) [
      | inl q ↦ level (λ t. t.one) (λ t. t.two) ts q (omega arith)
      | inr q ↦ sym (level (λ t. t.two) (λ t. t.one) ts q (omega arith))
    ]

-- ---- what a best way says of an offer, and of two

below_each : (es : List Offer) (gs : List ℕ) → Below gs (sizes es) → Each (λ e g. g ≤ e.units) es gs
below_each [] gs b = tt
below_each (e ∷ es) [] b = absurd b
below_each (e ∷ es) (g ∷ gs) b = (b.0, below_each es gs b.1)

module _ (o : Taker) (es : List Offer) where
  record Fact (e : Offer) (g : ℕ) : Type 0 where
    pub within : g ≤ e.units
    pub inside : 0 < g → InLimit o e
    pub shared : Sharing o e → RoundedTo (amount_at o es e) (total_at es e) e.units g

  facts : (gs : List ℕ) → Best o es gs → Each Fact es gs
  facts gs b =
      let I : Offer → ℕ → Type 0 = λ e g. 0 < g → InLimit o e in
      let S : Offer → ℕ → Type 0 = λ e g. Sharing o e → RoundedTo (amount_at o es e) (total_at es e) e.units g in
      each_map (λ e g. (g ≤ e.units) × (I e g × S e g)) Fact (λ e g q. record { within = q.0; inside = q.1.0; shared = q.1.1 }) es gs
      (each_both (λ e g. g ≤ e.units) (λ e g. I e g × S e g) es gs (below_each es gs b.way.offered) (each_both I S es gs b.way.inside b.shared))

  record Rule (e : Offer) (g : ℕ) (f : Offer) (h : ℕ) : Type 0 where
    pub priority : is_before o.buy e f ≡ true → 0 < h → g ≡ e.units
    pub arrival : is_beside e f ≡ true → e.rank ≡ R → e.arrival < f.arrival → 0 < h → g ≡ e.units
    pub leftovers : is_beside e f ≡ true → Sharing o e → 0 < f.units → e.arrival < f.arrival → LeftRule (amount_at o es e) (total_at es e) e.units g f.units h

  rules : (gs : List ℕ) → Best o es gs → Any2 Rule es gs
  rules gs b =
      let P : Offer → ℕ → Offer → ℕ → Type 0 = λ e g f h. is_before o.buy e f ≡ true → 0 < h → g ≡ e.units in
      let A : Offer → ℕ → Offer → ℕ → Type 0 = λ e g f h. is_beside e f ≡ true → e.rank ≡ R → e.arrival < f.arrival → 0 < h → g ≡ e.units in
      let S : Offer → ℕ → Offer → ℕ → Type 0 = λ e g f h. is_beside e f ≡ true → Sharing o e → 0 < f.units → e.arrival < f.arrival → LeftRule (amount_at o es e) (total_at es e) e.units g f.units h in
      any-map (λ e g f h. P e g f h × (A e g f h × S e g f h)) Rule (λ e g f h q. record { priority = q.0; arrival = q.1.0; leftovers = q.1.1 }) es gs
      (any_both P (λ e g f h. A e g f h × S e g f h) es gs b.priority (any_both A S es gs b.arrival b.leftovers))

-- ---- neither way gives one offer more and another less

module _ (a : Arrivals) (o : Taker) (es : List Offer) (keyed : Keyed o.buy es) where
  -- offers of one tier share one amount and total
  same_total : (e f : Offer) → KeyedAt o.buy e → KeyedAt o.buy f → tier e ≡ tier f → total_at es f ≡ total_at es e
  same_total e f k j t =
      total_tier o.buy (e.key + f.key) f es j (omega arith) keyed ∙ ap (λ (n : ℕ). sum (sizes_at n (all_up_to (e.key + f.key) es))) (sym t)
      ∙ sym (total_tier o.buy (e.key + f.key) e es k (omega arith) keyed)

  same-before : (e f : Offer) → KeyedAt o.buy e → KeyedAt o.buy f → tier e ≡ tier f → units_where (λ x. is_before o.buy x f) es ≡ units_where (λ x. is_before o.buy x e) es
  same-before e f k j t =
      units-before o.buy (e.key + f.key) f es j (omega arith) keyed ∙ ap (λ (n : ℕ). before n (all_up_to (e.key + f.key) es)) (sym t)
      ∙ sym (units-before o.buy (e.key + f.key) e es k (omega arith) keyed)

  same-share : (e f : Offer) (g : ℕ) → KeyedAt o.buy e → KeyedAt o.buy f → tier e ≡ tier f → RoundedTo (amount_at o es f) (total_at es f) f.units g → RoundedTo (amount_at o es e) (total_at es e) f.units g
  same-share e f g k j t r =
      subst (λ (n : ℕ). RoundedTo (min (o.units - units_where (λ x. is_before o.buy x e) es) n) n f.units g) (same_total e f k j t)
      (subst (λ (n : ℕ). RoundedTo (min (o.units - n) (total_at es f)) (total_at es f) f.units g) (same-before e f k j t) r)

  -- shares that are rounded otherwise: the one up, the other down
  down : (amount total size g h : ℕ) → RoundedTo amount total size g → RoundedTo amount total size h → g < h → (g ≡ amount * size / total) × (h ≡ amount * size / total + 1)
  down amount total size g h (inl p) (inl q) l = absurd (omega arith)
  down amount total size g h (inl p) (inr q) l = (p, q.0)
  down amount total size g h (inr p) (inl q) l = absurd (omega (arith, p.0))
  down amount total size g h (inr p) (inr q) l = absurd (omega (arith, p.0, q.0))

  -- what is known of the offer in a slot
  abbrev Known : Slot → Type 0
  Known t = KeyedAt o.buy t.offer × Fact o es t.offer t.one × Fact o es t.offer t.two

  module _ (e f : Offer) (g h x y : ℕ) (k : KeyedAt o.buy e) (j : KeyedAt o.buy f) (later : Later a e f)
      (eg : Fact o es e g) (eh : Fact o es e h) (fx : Fact o es f x) (fy : Fact o es f y)
      (ones : Rule o es e g f x) (twos : Rule o es e h f y) (back : Rule o es f y e h) where
    beside : tier e ≡ tier f → g < h → y < x → ⊥
    beside t l m = by e.rank refl
      where
        same : (e.price ≡ f.price) × (e.rank ≡ f.rank)
        same = tier-same o.buy e f k j t

        is : is_beside e f ≡ true
        is = beside-tier o.buy e f k j ∙ eq-eqb (tier e) (tier f) t

        sooner : e.arrival < f.arrival
        sooner = (later same.0 same.1).1

        legs : is_legs_rank e.rank ≡ true → ⊥
        legs z = true≢false (sym z ∙ (later same.0 same.1).2)

        shared : is_shared_rank e.rank ≡ true → ⊥
        shared z =
            let se : Sharing o e = (z, omega (arith, eh.within), eh.inside (omega arith)) in
            let sf : Sharing o f = (ap is_shared_rank (sym same.1) ∙ z, omega (arith, fx.within), fx.inside (omega arith)) in
            let (p, s) = down (amount_at o es e) (total_at es e) e.units g h (eg.shared se) (eh.shared se) l in
            let (u, v) = down (amount_at o es e) (total_at es e) f.units y x (same-share e f y k j t (fy.shared sf)) (same-share e f x k j t (fx.shared sf)) m in
            omega (arith, (ones.leftovers is se sf.1 sooner).0 p v, (twos.leftovers is se sf.1 sooner).1 s u)

        by : (r : Rank) → e.rank ≡ r → ⊥
        by L z = legs (ap is_legs_rank z)
        by C z = shared (ap is_shared_rank z)
        by N z = shared (ap is_shared_rank z)
        by T z = legs (ap is_legs_rank z)
        by R z = omega (arith, ones.arrival is z sooner (omega arith), eh.within)

    -- the one way gives the earlier less and the later more than the other
    no-exchange : g < h → y < x → ⊥
    no-exchange l m =
        elim (dec_lt (tier e) (tier f)) [
          | yes t ↦ omega (arith, ones.priority (before-tier o.buy e f k j ∙ lt-ltb (tier e) (tier f) t) (omega arith), eh.within)
          | no n ↦
              elim (dec_lt (tier f) (tier e)) [
                | yes t ↦ omega (arith, back.priority (before-tier o.buy f e j k ∙ lt-ltb (tier f) (tier e) t) (omega arith), fx.within)
                | no z ↦ beside (omega arith) l m
              ]
        ]

  steady : (t u : Slot) → Known t → Known u → Pair (Rule o es) (Later a) t u → Steady t u
  steady t u k j p = (
    no-exchange t.offer u.offer t.one t.two u.one u.two k.0 j.0 p.0 k.1 k.2 j.1 j.2 p.1.0 p.2.0 p.2.1,
    no-exchange t.offer u.offer t.two t.one u.two u.one k.0 j.0 p.0 k.2 k.1 j.2 j.1 p.2.0 p.1.0 p.1.1,
  )

  pub best-unique : (gs hs : List ℕ) → Pairwise (Later a) es → Best o es gs → Best o es hs → gs ≡ hs
  best-unique gs hs l b c =
      let ts : List Slot = slots es gs hs in
      let (one, two) = ways_back es gs hs b.way.offered c.way.offered in
      let s : sum gs ≡ sum hs = omega (arith, b.most hs c.way, c.most gs b.way) in
      sym one
      ∙ same_ways ts (pairwise_map Known (Pair (Rule o es) (Later a)) Steady steady ts (all_slots (KeyedAt o.buy) (Fact o es) (Fact o es) es gs hs keyed (facts o es gs b) (facts o es hs c))
      (pair-slots (Rule o es) (Later a) es gs hs l (rules o es gs b) (rules o es hs c))) (ap sum one ∙ s ∙ sym (ap sum two))
      ∙ two
