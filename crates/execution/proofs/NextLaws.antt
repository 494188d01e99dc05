-- The nearest tier from b on that has units: nobody before it has any, and it is one of the offers' tiers.
use mathlib.Core.Path.{◌≡◌, refl, sym, ◌∙◌}
use mathlib.Core.Logic.{◌⊎◌, inl, inr, ⊎_elim}
use mathlib.Core.Bool.{◌&&◌}
use mathlib.Core.List.{List, [], ◌∷◌}
use Prim.Native.Nat.{ℕ, ◌≤◌, ◌<◌, min}
use native.Mathlib.Decide.{dec_lt}
use native.Mathlib.Omega.{arith}
use borrow.Author.Tests.{lt-ltb, le-ltb, le-leb, lt-leb}
use lib.Dec.{ltb, leb}
use Rattle.rules.specs.Basics.{pick}
use Rattle.rules.specs.Turn.{Offer, tier, tiers}
use Rattle.rules.proofs.TurnLaws.{Among, Covers, tiers_cover}
use Rattle.execution.specs.Walk.{spots, no_tier, nearer, least_from}

-- ---- one slot

near : (b m p u : ℕ) → ((nearer b m p u ≡ p) × (b ≤ p) × (p < m)) ⊎ ((nearer b m p u ≡ m) × (b ≤ p → p < m → u ≡ 0))
near b m p u =
    elim (dec_lt p b) [
      | yes h ↦ inr (rw (lt-leb b p h), λ i j. absurd (omega arith))
      | no h ↦
          elim (dec_lt p m) [
            | yes i ↦
                elim (dec_lt 0 u) [
                  | yes j ↦ inl (rw (le-leb b p (omega arith), lt-ltb p m i, lt-ltb 0 u j), omega arith, i)
                  | no j ↦ inr (rw (le-leb b p (omega arith), lt-ltb p m i, le-ltb 0 u (omega arith)), λ k l. omega arith)
                ]
            | no i ↦ inr (rw (le-leb b p (omega arith), le-ltb p m (omega arith)), λ k l. absurd (omega arith))
          ]
    ]

-- a slot's tier, where it is open, or the nearest so far
pub near-least : (b m p u : ℕ) → m ≤ no_tier → min (pick (leb b p && ltb 0 u) p no_tier) m ≡ nearer b m p u
near-least b m p u h =
    elim (dec_lt p b) [
      | yes i ↦ rw (lt-leb b p i) (omega arith)
      | no i ↦
          elim (dec_lt 0 u) [
            | yes j ↦
                elim (dec_lt p m) [
                  | yes l ↦ rw (le-leb b p (omega arith), lt-ltb 0 u j, lt-ltb p m l) (omega arith)
                  | no l ↦ rw (le-leb b p (omega arith), lt-ltb 0 u j, le-ltb p m (omega arith)) (omega arith)
                ]
            | no j ↦
                elim (dec_lt p m) [
                  | yes l ↦ rw (le-leb b p (omega arith), le-ltb 0 u (omega arith), lt-ltb p m l) (omega arith)
                  | no l ↦ rw (le-leb b p (omega arith), le-ltb 0 u (omega arith), le-ltb p m (omega arith)) (omega arith)
                ]
          ]
    ]

-- ---- the least tier

least_or : (b m : ℕ) (ps us : List ℕ) → (least_from b m ps us ≡ m) ⊎ (b ≤ least_from b m ps us)
unfolding least_from
least_or b m [] us = inl refl
least_or b m (p ∷ ps) [] = inl refl
least_or b m (p ∷ ps) (u ∷ us) =
    ⊎_elim
    (λ e. ⊎_elim (λ w. inr (omega (arith, e, w.0, w.1))) (λ w. inl (e ∙ w.0)) (near b m p u))
    (λ l. inr l)
    (least_or b (nearer b m p u) ps us)

pub least_low : (b m k : ℕ) (ps us : List ℕ) → k ≡ least_from b m ps us → b ≤ m → b ≤ k
least_low b m k ps us e h = ⊎_elim (λ q. omega arith) (λ q. omega arith) (least_or b m ps us)

pub least_most : (b m : ℕ) (ps us : List ℕ) → least_from b m ps us ≤ m
unfolding least_from
least_most b m [] us = omega arith
least_most b m (p ∷ ps) [] = omega arith
least_most b m (p ∷ ps) (u ∷ us) =
    ⊎_elim
    (λ w. omega (arith, least_most b (nearer b m p u) ps us, w.0, w.2))
    (λ w. omega (arith, least_most b (nearer b m p u) ps us, w.0))
    (near b m p u)

-- ---- nobody before it

-- those from b on and before k have no units
abbrev pub Gapped : ℕ → ℕ → List Offer → List ℕ → Type 0
Gapped b k [] us = Unit {0}
Gapped b k (e ∷ es) [] = Unit {0}
Gapped b k (e ∷ es) (u ∷ us) = (b ≤ tier e → tier e < k → u ≡ 0) × Gapped b k es us

pub least_gap : (b m k : ℕ) (es : List Offer) (us : List ℕ) → k ≡ least_from b m (spots es) us → Gapped b k es us
unfolding least_from spots
least_gap b m k [] us h = tt
least_gap b m k (e ∷ es) [] h = tt
least_gap b m k (e ∷ es) (u ∷ us) h =
    let l = least_most b (nearer b m (tier e) u) (spots es) us in (
      ⊎_elim (λ w i j. absurd (omega (arith, l, h, w.0))) (λ w i j. w.1 i (omega (arith, l, h, w.0))) (near b m (tier e) u),
      least_gap b (nearer b m (tier e) u) k es us h,
    )

-- ---- one of the offers' tiers

abbrev Stands : ℕ → List Offer → Type 0
Stands k [] = ⊥
Stands k (e ∷ es) = (tier e ≡ k) ⊎ Stands k es

least-stands : (b m k : ℕ) (es : List Offer) (us : List ℕ) → k ≡ least_from b m (spots es) us → (k ≡ m) ⊎ Stands k es
unfolding least_from spots
least-stands b m k [] us h = inl h
least-stands b m k (e ∷ es) [] h = inl h
least-stands b m k (e ∷ es) (u ∷ us) h =
    ⊎_elim
    (λ q. ⊎_elim (λ w. inr (inl (sym w.0 ∙ sym q))) (λ w. inl (q ∙ w.0)) (near b m (tier e) u))
    (λ q. inr (inr q))
    (least-stands b (nearer b m (tier e) u) k es us h)

stands_among : (k : ℕ) (ks : List ℕ) (es : List Offer) → Covers 0 ks es → Stands k es → Among k ks
stands_among k ks [] c s = absurd s
stands_among k ks (e ∷ es) c (inl q) = rw q at (c.0 (omega arith))
stands_among k ks (e ∷ es) c (inr s) = stands_among k ks es c.1 s

pub least_among : (b m k : ℕ) (es : List Offer) (us : List ℕ) → k ≡ least_from b m (spots es) us → k < m → Among k (tiers es)
least_among b m k es us e h = stands_among k (tiers es) es (tiers_cover es) (⊎_elim (λ q. absurd (omega arith)) (λ q. q) (least-stands b m k es us e))
