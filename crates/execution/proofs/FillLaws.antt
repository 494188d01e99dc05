-- The records of a turn, tier by tier: those of the tiers before b, and the next.
use mathlib.Core.Path.{◌≡◌, refl, ap, ap₂, sym, ◌∙◌}
use mathlib.Core.Bool.{Bool, true, false, ◌&&◌}
use mathlib.Core.Logic.{⊎_elim}
use mathlib.Core.List.{List, [], ◌∷◌, ◌++◌, append-nil, append_assoc}
use Prim.Native.Nat.{ℕ, suc, ◌+◌, ◌≤◌, ◌<◌}
use native.Mathlib.Decide.{ℕ_discrete, dec_lt}
use native.Mathlib.Omega.{arith}
use borrow.Author.Tests.{eq-eqb, ne_eqb, lt-ltb, le-ltb}
use lib.Dec.{eqb, ltb}
use lib.ListN.{length}
use Rattle.rules.specs.Basics.{pick, zeros}
use Rattle.rules.specs.Turn.{Offer, tier, tiers, sizes, Fill, fill_of, fills_at, fills_of}
use Rattle.rules.proofs.TestLaws.{and_no, pick_none}
use Rattle.rules.proofs.TurnLaws.{Rising, Among, among_from, tiers_rising, tiers_cover}
use Rattle.execution.proofs.NextLaws.{Gapped}

-- the grants at tiers before b
abbrev pub cut : ℕ → List Offer → List ℕ → List ℕ
cut b [] gs = []
cut b (e ∷ es) [] = []
cut b (e ∷ es) (g ∷ gs) = pick (ltb (tier e) b) g 0 ∷ cut b es gs

-- the tiers before b
abbrev pub below : ℕ → List ℕ → List ℕ
below b [] = []
below b (k ∷ ks) = pick (ltb k b) (k ∷ below b ks) (below b ks)

module _ (u v : ℕ) where
  -- ---- one slot more

  pub fills-last : (k : ℕ) (es : List Offer) (gs : List ℕ) (e : Offer) (g : ℕ) → length es ≡ length gs
      → fills_at u v k (es ++ (e ∷ [])) (gs ++ (g ∷ [])) ≡ fills_at u v k es gs ++ pick (eqb (tier e) k && ltb 0 g) (fill_of u v e g ∷ []) []
  fills-last k [] [] e g h = refl
  fills-last k [] (x ∷ gs) e g h = absurd (omega arith)
  fills-last k (d ∷ es) [] e g h = absurd (omega arith)
  fills-last k (d ∷ es) (x ∷ gs) e g h = go (eqb (tier d) k && ltb 0 x) (fills-last k es gs e g (omega arith))
    where
      go : (b : Bool) → fills_at u v k (es ++ (e ∷ [])) (gs ++ (g ∷ [])) ≡ fills_at u v k es gs ++ pick (eqb (tier e) k && ltb 0 g) (fill_of u v e g ∷ []) []
          → pick b (fill_of u v d x ∷ fills_at u v k (es ++ (e ∷ [])) (gs ++ (g ∷ []))) (fills_at u v k (es ++ (e ∷ [])) (gs ++ (g ∷ [])))
          ≡ pick b (fill_of u v d x ∷ fills_at u v k es gs) (fills_at u v k es gs) ++ pick (eqb (tier e) k && ltb 0 g) (fill_of u v e g ∷ []) []
      go true q = ap (λ (l : List Fill). fill_of u v d x ∷ l) q
      go false q = q

  -- ---- at one tier

  -- the grants of later tiers are no part of it
  pub fills-cut : (k b : ℕ) (es : List Offer) (gs : List ℕ) → k < b → fills_at u v k es (cut b es gs) ≡ fills_at u v k es gs
  fills-cut k b [] gs h = refl
  fills-cut k b (e ∷ es) [] h = refl
  fills-cut k b (e ∷ es) (g ∷ gs) h =
      elim (ℕ_discrete (tier e) k) [
        | yes q ↦ rw (lt-ltb (tier e) b (omega arith), fills-cut k b es gs h)
        | no q ↦ rw (ne_eqb (tier e) k q) (fills-cut k b es gs h)
      ]

  gap-fills : (b k j : ℕ) (es : List Offer) (gs : List ℕ) → Gapped b k es gs → b ≤ j → j < k → fills_at u v j es gs ≡ []
  gap-fills b k j [] gs g h l = refl
  gap-fills b k j (e ∷ es) [] g h l = refl
  gap-fills b k j (e ∷ es) (x ∷ gs) g h l =
      elim (ℕ_discrete (tier e) j) [
        | yes q ↦ (
            let z : x ≡ 0 = g.0 (omega arith) (omega arith) in
            rw (eq-eqb (tier e) j q, le-ltb 0 x (omega arith)) (gap-fills b k j es gs g.1 h l)
            )
        | no q ↦ rw (ne_eqb (tier e) j q) (gap-fills b k j es gs g.1 h l)
      ]

  late-fills : (b j : ℕ) (es : List Offer) (gs : List ℕ) → b ≤ j → fills_at u v j es (cut b es gs) ≡ []
  late-fills b j [] gs h = refl
  late-fills b j (e ∷ es) [] h = refl
  late-fills b j (e ∷ es) (g ∷ gs) h =
      elim (ℕ_discrete (tier e) j) [
        | yes q ↦ rw (eq-eqb (tier e) j q, le-ltb (tier e) b (omega arith)) (late-fills b j es gs h)
        | no q ↦ rw (ne_eqb (tier e) j q) (late-fills b j es gs h)
      ]

  -- ---- the tiers before b

  below_none : (b c : ℕ) (ks : List ℕ) → b ≤ c → Rising c ks → below b ks ≡ []
  below_none b c [] h r = refl
  below_none b c (k ∷ ks) h r = rw (le-ltb k b (omega (arith, r.0)), below_none b (suc k) ks (omega (arith, r.0)) r.1)

  pub fills-start : (ks : List ℕ) (es : List Offer) (gs : List ℕ) → Rising 0 ks → fills_of u v (below 0 ks) es gs ≡ []
  fills-start ks es gs r = ap (λ (l : List ℕ). fills_of u v l es gs) (below_none 0 0 ks (omega arith) r)

  -- the next tier k
  pub fills-next : (b k c : ℕ) (ks : List ℕ) (es : List Offer) (gs : List ℕ) → b ≤ k → Rising c ks → Among k ks → Gapped b k es gs
      → fills_of u v (below b ks) es gs ++ fills_at u v k es gs ≡ fills_of u v (below (k + 1) ks) es gs
  fills-next b k c [] es gs h r a g = absurd a
  fills-next b k c (j ∷ ks) es gs h r a g =
      elim (ℕ_discrete k j) [
        | yes e ↦ (
            let n : below b ks ≡ [] = below_none b (suc j) ks (omega arith) r.1 in
            let m : below (k + 1) ks ≡ [] = below_none (k + 1) (suc j) ks (omega arith) r.1 in
            rw (le-ltb j b (omega arith), lt-ltb j (k + 1) (omega arith), n, m, ← e, append-nil)
            )
        | no e ↦ (
            let a' : Among k ks = ⊎_elim (λ q. absurd (e q)) (λ q. q) a in
            let l : suc j ≤ k = among_from (suc j) ks k r.1 a' in
            let i = fills-next b k (suc j) ks es gs h r.1 a' g in
            elim (dec_lt j b) [
              | yes m ↦ rw (lt-ltb j b m, lt-ltb j (k + 1) (omega arith), append_assoc, i)
              | no m ↦ rw (le-ltb j b (omega arith), lt-ltb j (k + 1) (omega arith), gap-fills b k j es gs g (omega arith) l) i
            ]
            )
      ]

  -- nothing is given from b on
  pub fills-end : (b : ℕ) (ks : List ℕ) (es : List Offer) (gs : List ℕ) → cut b es gs ≡ gs → fills_of u v (below b ks) es gs ≡ fills_of u v ks es gs
  fills-end b [] es gs c = refl
  fills-end b (j ∷ ks) es gs c =
      elim (dec_lt j b) [
        | yes m ↦ rw (lt-ltb j b m, fills-end b ks es gs c)
        | no m ↦ (
            let n : fills_at u v j es gs ≡ [] = rw c at (late-fills b j es gs (omega arith)) in
            rw (le-ltb j b (omega arith), n) (fills-end b ks es gs c)
            )
      ]

  -- ---- only the first gives

  none-fills : (k : ℕ) (es : List Offer) → fills_at u v k es (zeros (sizes es)) ≡ []
  none-fills k [] = refl
  none-fills k (e ∷ es) = rw (and_no (eqb (tier e) k) false refl) (none-fills k es)

  gap-none : (b k : ℕ) (es : List Offer) → Gapped b k es (zeros (sizes es))
  gap-none b k [] = tt
  gap-none b k (e ∷ es) = (λ i j. refl, gap-none b k es)

  cut-zeros : (b : ℕ) (es : List Offer) → cut b es (zeros (sizes es)) ≡ zeros (sizes es)
  cut-zeros b [] = refl
  cut-zeros b (e ∷ es) = ap₂ (λ (x : ℕ) (l : List ℕ). x ∷ l) (pick_none (ltb (tier e) b)) (cut-zeros b es)

  pub fills_first : (e : Offer) (es : List Offer) (g : ℕ) → fills_of u v (tiers (e ∷ es)) (e ∷ es) (g ∷ zeros (sizes es)) ≡ pick (ltb 0 g) (fill_of u v e g ∷ []) []
  fills_first e es g =
      let k : ℕ = tier e in
      let gs : List ℕ = g ∷ zeros (sizes es) in
      let a : Among k (tiers (e ∷ es)) = (tiers_cover (e ∷ es)).0 (omega arith) in
      let c : cut (k + 1) (e ∷ es) gs ≡ gs = rw (lt-ltb k (k + 1) (omega arith), cut-zeros (k + 1) es) in
      sym (fills-end (k + 1) (tiers (e ∷ es)) (e ∷ es) gs c)
      ∙ sym (fills-next 0 k 0 (tiers (e ∷ es)) (e ∷ es) gs (omega arith) (tiers_rising (e ∷ es)) a (λ i j. absurd (omega arith), gap-none 0 k es))
      ∙ rw (fills-start (tiers (e ∷ es)) (e ∷ es) gs (tiers_rising (e ∷ es)), eq-eqb k k refl, none-fills k es)
