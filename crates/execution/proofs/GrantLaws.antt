-- A turn that goes from tier to tier: what it has given and written before tier b is what the rules' turn gives and records there.
use mathlib.Core.Path.{◌≡◌, refl, ap, ap₂, sym, ◌∙◌}
use mathlib.Core.Bool.{Bool, true, false}
use mathlib.Core.List.{List, [], ◌∷◌}
use Prim.Native.Nat.{ℕ, ◌+◌, ◌-◌, ◌≤◌, ◌<◌, min}
use native.Mathlib.Decide.{ℕ_discrete, dec_lt}
use native.Mathlib.Omega.{arith}
use native.Mathlib.Numerals.{add-one}
use lib.Dec.{eqb, ltb}
use borrow.Author.Tests.{eq-eqb, ne_eqb, lt-ltb, le-ltb}
use Rattle.rules.specs.Basics.{sum, Below, pick, zeros}
use Rattle.rules.specs.Share.{shares, in_turn}
use Rattle.rules.specs.Turn.{Offer, tier, tiers, size_at, sizes_at, sizes, is_shared, deal, turn, fills_at, fills_of}
use Rattle.rules.specs.Best.{Each}
use Rattle.rules.proofs.BasicsLaws.{below-full}
use Rattle.rules.proofs.TestLaws.{pick_both}
use Rattle.rules.proofs.TurnLaws.{before, amount_from, CutAt, deal-all, turn_below, turn-sum, turn-cut, before_none, before-next, tiers_rising}
use Rattle.rules.proofs.TierLaws.{gives_at, turn_at}
use Rattle.records.specs.Records.{Adds}
use Rattle.records.proofs.RecordLaws.{adds_none, adds_then}
use Rattle.execution.specs.Walk.{spots, no_tier, least_from, sizes_of, over, Under}
use Rattle.execution.specs.Turned.{Turned}
use Rattle.execution.proofs.NextLaws.{Gapped, least_low, least_most, least_gap, least_among}
use Rattle.execution.proofs.FillLaws.{cut, below, fills-cut, fills-start, fills-next, fills-end}

-- ---- the two lists of some offers

sizes_of_lem : (k : ℕ) (es : List Offer) → sizes_of k (spots es) (sizes es) ≡ sizes_at k es
unfolding sizes_of spots
sizes_of_lem k [] = refl
sizes_of_lem k (e ∷ es) = ap (λ (l : List ℕ). size_at k e ∷ l) (sizes_of_lem k es)

-- the units of those at k are the sizes at k
over-sizes : (k : ℕ) (ps us gs : List ℕ) → over k ps us gs ≡ over k ps (sizes_of k ps us) gs
unfolding over sizes_of
over-sizes k [] us gs = refl
over-sizes k (p ∷ ps) [] gs = refl
over-sizes k (p ∷ ps) (u ∷ us) [] = refl
over-sizes k (p ∷ ps) (u ∷ us) (g ∷ gs) = ap₂ (λ (a : ℕ) (l : List ℕ). a ∷ l) (go (eqb p k)) (over-sizes k ps us gs)
  where
    go : (b : Bool) → pick b u g ≡ pick b (pick b u 0) g
    go true = refl
    go false = refl

-- where nobody has units there is nothing to give
gapped_below : (b k : ℕ) (es : List Offer) (ts us : List ℕ) → Below ts us → Gapped b k es us → Gapped b k es ts
gapped_below b k [] ts us l g = tt
gapped_below b k (e ∷ es) [] us l g = tt
gapped_below b k (e ∷ es) (t ∷ ts) [] l g = absurd l
gapped_below b k (e ∷ es) (t ∷ ts) (u ∷ us) l g = (λ i j. omega (arith, l.0, g.0 i j), gapped_below b k es ts us l.1 g.1)

-- ---- the units before b

before_same : (b k : ℕ) (es : List Offer) → b ≤ k → Gapped b k es (sizes es) → before k es ≡ before b es
before_same b k [] h g = refl
before_same b k (e ∷ es) h g =
    elim (dec_lt (tier e) b) [
      | yes l ↦ rw (lt-ltb (tier e) b l, lt-ltb (tier e) k (omega arith), before_same b k es h g.1)
      | no n ↦
          elim (dec_lt (tier e) k) [
            | yes l ↦ rw (le-ltb (tier e) b (omega arith), lt-ltb (tier e) k l, g.0 (omega arith) l, before_same b k es h g.1)
            | no m ↦ rw (le-ltb (tier e) b (omega arith), le-ltb (tier e) k (omega arith), before_same b k es h g.1)
          ]
    ]

before_most : (b : ℕ) (es : List Offer) → before b es ≤ sum (sizes es)
before_most b [] = omega arith
before_most b (e ∷ es) =
    let q : pick (ltb (tier e) b) e.units 0 ≤ e.units = pick_both (λ (x : ℕ). x ≤ e.units) (ltb (tier e) b) (omega arith) (omega arith) in
    omega (arith, before_most b es)

before-all : (m : ℕ) (es : List Offer) → Under m (spots es) → before m es ≡ sum (sizes es)
unfolding spots
before-all m [] s = refl
before-all m (e ∷ es) s = rw (lt-ltb (tier e) m s.0, before-all m es s.1)

-- ---- the grants before b

over-cut : (b k : ℕ) (es : List Offer) (ts : List ℕ) → b ≤ k → Below ts (sizes es) → Gapped b k es ts → over k (spots es) (gives_at k es ts) (cut b es ts) ≡ cut (k + 1) es ts
unfolding over spots
over-cut b k [] ts h l g = refl
over-cut b k (e ∷ es) [] h l g = absurd l
over-cut b k (e ∷ es) (t ∷ ts) h l g =
    ap₂ (λ (a : ℕ) (r : List ℕ). a ∷ r) (
    elim (ℕ_discrete (tier e) k) [
      | yes q ↦ rw (eq-eqb (tier e) k q, lt-ltb (tier e) (k + 1) (omega arith))
      | no q ↦
          elim (dec_lt (tier e) b) [
            | yes i ↦ rw (ne_eqb (tier e) k q, lt-ltb (tier e) b i, lt-ltb (tier e) (k + 1) (omega arith))
            | no i ↦
                elim (dec_lt (tier e) k) [
                  | yes j ↦ rw (ne_eqb (tier e) k q, le-ltb (tier e) b (omega arith), lt-ltb (tier e) (k + 1) (omega arith), g.0 (omega arith) j)
                  | no j ↦ rw (ne_eqb (tier e) k q, le-ltb (tier e) b (omega arith), le-ltb (tier e) (k + 1) (omega arith))
                ]
          ]
    ]) (over-cut b k es ts h l.1 g.1)

cut_none : (es : List Offer) (ts : List ℕ) → Below ts (sizes es) → cut 0 es ts ≡ zeros (sizes es)
cut_none [] ts l = refl
cut_none (e ∷ es) [] l = absurd l
cut_none (e ∷ es) (t ∷ ts) l = rw (le-ltb (tier e) 0 (omega arith), cut_none es ts l.1)

cut_below : (b : ℕ) (es : List Offer) (ts : List ℕ) → Below ts (sizes es) → Below (cut b es ts) ts
cut_below b [] [] l = tt
cut_below b [] (t ∷ ts) l = absurd l
cut_below b (e ∷ es) [] l = absurd l
cut_below b (e ∷ es) (t ∷ ts) l = (pick_both (λ (x : ℕ). x ≤ t) (ltb (tier e) b) (omega arith) (omega arith), cut_below b es ts l.1)

cut_sum : (b q : ℕ) (es : List Offer) (ts : List ℕ) → b ≤ q → Each (CutAt q) es ts → sum (cut b es ts) ≡ before b es
cut_sum b q [] ts h c = refl
cut_sum b q (e ∷ es) [] h c = absurd c
cut_sum b q (e ∷ es) (t ∷ ts) h c =
    elim (dec_lt (tier e) b) [
      | yes i ↦ rw (lt-ltb (tier e) b i) (omega (arith, c.0.0 (omega arith), cut_sum b q es ts h c.1))
      | no i ↦ rw (le-ltb (tier e) b (omega arith)) (omega (arith, cut_sum b q es ts h c.1))
    ]

cut_all : (b q : ℕ) (es : List Offer) (ts : List ℕ) → q < b → Each (CutAt q) es ts → Below ts (sizes es) → cut b es ts ≡ ts
cut_all b q [] [] h c l = refl
cut_all b q [] (t ∷ ts) h c l = absurd l
cut_all b q (e ∷ es) [] h c l = absurd c
cut_all b q (e ∷ es) (t ∷ ts) h c l =
    elim (dec_lt (tier e) b) [
      | yes i ↦ rw (lt-ltb (tier e) b i, cut_all b q es ts h c.1 l.1)
      | no i ↦ rw (le-ltb (tier e) b (omega arith), cut_all b q es ts h c.1 l.1, c.0.1 (omega arith))
    ]

cut-rest : (b m : ℕ) (es : List Offer) (ts : List ℕ) → Gapped b m es ts → Under m (spots es) → Below ts (sizes es) → cut b es ts ≡ ts
unfolding spots
cut-rest b m [] [] g s l = refl
cut-rest b m [] (t ∷ ts) g s l = absurd l
cut-rest b m (e ∷ es) [] g s l = absurd l
cut-rest b m (e ∷ es) (t ∷ ts) g s l =
    elim (dec_lt (tier e) b) [
      | yes i ↦ rw (lt-ltb (tier e) b i, cut-rest b m es ts g.1 s.1 l.1)
      | no i ↦ rw (le-ltb (tier e) b (omega arith), cut-rest b m es ts g.1 s.1 l.1, g.0 (omega arith) s.0)
    ]

-- ---- the walk

-- what has been given and written before tier b, and what is left
pub record Walked (number id U b rest : ℕ) (es : List Offer) (gs old : List ℕ) (at : ℕ) (new : List ℕ) (w : ℕ) : Type 0 where
  pub given : gs ≡ cut b es (turn U es)
  pub left : rest ≡ U - before b es
  pub records : Adds old at new w (fills_of number id (below b (tiers es)) es (turn U es))

module _ (number id U : ℕ) (es : List Offer) where
  pub walk_start : (gs list : List ℕ) (at : ℕ) → gs ≡ zeros (sizes es) → Walked number id U 0 U es gs list at list at
  walk_start gs list at e =
      record {
        given = e ∙ sym (cut_none es (turn U es) (turn_below U es));
        left = omega (arith, before_none es);
        records = rw (fills-start number id (tiers es) es (turn U es) (tiers_rising es)) (adds_none list at);
      }

  -- all is given and written
  done : (b rest took : ℕ) (gs old : List ℕ) (at : ℕ) (new : List ℕ) (w : ℕ) → cut b es (turn U es) ≡ turn U es → took ≡ sum (turn U es) → Walked number id U b rest es gs old at new w → Turned number id U es gs took old at new w
  done b rest took gs old at new w c t g = record { given = g.given ∙ c; taken = t; records = rw (← fills-end number id b (tiers es) es (turn U es) c) g.records }

  -- nothing is left of the order
  pub walk_end : (b rest : ℕ) (gs old : List ℕ) (at : ℕ) (new : List ℕ) (w : ℕ) → rest ≡ 0 → Walked number id U b rest es gs old at new w → Turned number id U es gs U old at new w
  walk_end b rest gs old at new w z g =
      let (q, c) = turn-cut U es in
      let l = turn_below U es in
      done b rest U gs old at new w (
      elim (dec_lt q b) [
        | yes h ↦ cut_all b q es (turn U es) h c l
        | no h ↦ below-full (cut b es (turn U es)) (turn U es) (cut_below b es (turn U es) l) (omega (arith, cut_sum b q es (turn U es) (omega arith) c, turn-sum U es, g.left))
      ]) (omega (arith, turn-sum U es, before_most b es, g.left)) g

  -- the next tier k of slots at tiers ps with units us
  module _ (b rest k : ℕ) (ps us gs old : List ℕ) (at : ℕ) (new : List ℕ) (w : ℕ) (h : b ≤ no_tier) (p : spots es ≡ ps) (q : sizes es ≡ us) (m : k ≡ least_from b no_tier ps us)
      (g : Walked number id U b rest es gs old at new w) where
    next : k ≡ least_from b no_tier (spots es) (sizes es)
    next = rw (p, q) m

    low : b ≤ k
    low = least_low b no_tier k ps us m h

    gap : Gapped b k es (sizes es)
    gap = least_gap b no_tier k es (sizes es) next

    gap-given : Gapped b k es (turn U es)
    gap-given = gapped_below b k es (turn U es) (sizes es) (turn_below U es) gap

    -- nothing is left to take
    pub walk_none : no_tier ≤ k → Under no_tier ps → Turned number id U es gs (U - rest) old at new w
    walk_none l s =
        let e : k ≡ no_tier = omega (arith, m, least_most b no_tier ps us) in
        let s' : Under no_tier (spots es) = rw p s in
        done b rest (U - rest) gs old at new w (cut-rest b no_tier es (turn U es) (rw e at gap-given) s' (turn_below U es))
        (omega (arith, turn-sum U es, g.left, before_same b no_tier es h (rw e at gap), before-all no_tier es s')) g

    module _ (s : k < no_tier) where
      sizes-are : sizes_of k ps us ≡ sizes_at k es
      sizes-are = rw (← p, ← q) (sizes_of_lem k es)

      -- all at tier k given their share of what is left
      shared : over k ps (deal k (min rest (sum (sizes_of k ps us))) (sizes_of k ps us)) gs ≡ cut (k + 1) es (turn U es)
      shared =
          let a : min rest (sum (sizes_at k es)) ≡ amount_from U es k = omega (arith, g.left, before_same b k es low gap) in
          rw (sizes-are, ← p, g.given, a, ← turn_at U es k (least_among b no_tier k es (sizes es) next s)) (over-cut b k es (turn U es) low (turn_below U es) gap-given)

      rest-is : rest - sum (sizes_of k ps us) ≡ U - before (k + 1) es
      rest-is =
          let n : before (k + 1) es ≡ before k es + sum (sizes_at k es) = rw (add-one k) (before-next k es) in
          rw sizes-are (omega (arith, g.left, n, before_same b k es low gap))

      -- with the records of that tier
      step : (left : ℕ) (out list : List ℕ) (r : ℕ) → out ≡ cut (k + 1) es (turn U es) → left ≡ U - before (k + 1) es → Adds new w list r (fills_at number id k es out) → Walked number id U (k + 1) left es out old at list r
      step left out list r o e f =
          record {
            given = o;
            left = e;
            records = rw (← fills-next number id b k 0 (tiers es) es (turn U es) low (tiers_rising es) (least_among b no_tier k es (sizes es) next s) gap-given)
                (adds_then old new list at w r _ _ g.records (rw (o, fills-cut number id k (k + 1) es (turn U es) (omega arith)) at f));
          }

      -- there is enough for all of them
      pub walk-all : (t : ℕ) (out list : List ℕ) (r : ℕ) → t ≡ sum (sizes_of k ps us) → t ≤ rest → out ≡ over k ps us gs → Adds new w list r (fills_at number id k es out) → Walked number id U (k + 1) (rest - t) es out old at list r
      walk-all t out list r e l o f =
          let z : min rest (sum (sizes_of k ps us)) ≡ sum (sizes_of k ps us) = omega arith in
          step (rest - t) out list r (o ∙ over-sizes k ps us gs ∙ rw (z, deal-all k (sizes_of k ps us)) at shared) (rw e rest-is) f

      -- there is not
      pub walk-part : (t : ℕ) (out list : List ℕ) (r : ℕ) → t ≡ sum (sizes_of k ps us) → rest < t → out ≡ over k ps (deal k rest (sizes_of k ps us)) gs → Adds new w list r (fills_at number id k es out) → Turned number id U es out U old at list r
      walk-part t out list r e l o f =
          let z : min rest (sum (sizes_of k ps us)) ≡ rest = omega arith in
          walk_end (k + 1) 0 out old at list r refl (step 0 out list r (o ∙ rw z at shared) (omega (arith, rest-is)) f)

-- ---- dealing at one tier

pub deal_yes : (k a : ℕ) (ss : List ℕ) → is_shared k ≡ true → shares a ss ≡ deal k a ss
unfolding deal
deal_yes k a ss h = rw h

pub deal_no : (k a : ℕ) (ss : List ℕ) → is_shared k ≡ false → in_turn a ss ≡ deal k a ss
unfolding deal
deal_no k a ss h = rw h

-- part of what stands at tier k: its sizes gathered, the amount dealt over them, and given where they stand
pub part_is : (k a : ℕ) (ps us gs : List ℕ) {ss out new : List ℕ} → ss ≡ sizes_of k ps us → out ≡ deal k a ss → new ≡ over k ps out gs → new ≡ over k ps (deal k a (sizes_of k ps us)) gs
part_is k a ps us gs s d e = e ∙ ap (λ (l : List ℕ). over k ps l gs) (d ∙ ap (λ (l : List ℕ). deal k a l) s)
