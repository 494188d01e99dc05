-- The search for leg prices gives the least that solve, and none exactly where none do.
use mathlib.Core.Path.{◌≡◌}
use mathlib.Core.Bool.{true, false}
use mathlib.Core.List.{List, [], ◌∷◌}
use mathlib.Core.Logic.{◌⊎◌, inl, inr}
use Prim.Native.Nat.{ℕ, zero, suc, ◌+◌, ◌-◌, ◌≤◌, ◌<◌}
use native.Mathlib.Decide.{ℕ_discrete}
use native.Mathlib.Omega.{arith}
use borrow.Author.Tests.{eq-eqb, ne_eqb}
use Rattle.rules.specs.LegPrices.{LegPrices, unpriced, priced, Range, before, or_else, tries, part, search}

-- a price per leg, inside bid and ask, with an exact net
abbrev pub Solves : List Range → ℕ → ℕ → List ℕ → Type 0
Solves [] paid got [] = paid ≡ got
Solves [] paid got (p ∷ ps) = ⊥
Solves (g ∷ gs) paid got [] = ⊥
Solves (g ∷ gs) paid got (p ∷ ps) = ((g.bid ≤ p) × (p ≤ g.ask)) × Solves gs (paid + part true g p) (got + part false g p) ps

-- lower at the first leg where they differ, or the same
abbrev pub NotAbove : List ℕ → List ℕ → Type 0
NotAbove [] qs = Unit {0}
NotAbove (p ∷ ps) [] = ⊥
NotAbove (p ∷ ps) (q ∷ qs) = (p < q) ⊎ ((p ≡ q) × NotAbove ps qs)

-- what a search answers: the least that solve, or that none do
abbrev pub Answers : (List ℕ → Type 0) → LegPrices → Type 0
Answers S unpriced = (ps : List ℕ) → S ps → ⊥
Answers S (priced ps) = S ps × ((qs : List ℕ) → S qs → NotAbove ps qs)

-- a first price from lo to lo + n - 1, and later prices that solve with it
abbrev Tried : ℕ → ℕ → (ℕ → List ℕ → Type 0) → List ℕ → Type 0
Tried lo n S [] = ⊥
Tried lo n S (p ∷ ps) = ((lo ≤ p) × (p < lo + n)) × S p ps

-- what is found behind price lo, or else what is found from the next on
found_first : (lo n : ℕ) (S : ℕ → List ℕ → Type 0) (r t : LegPrices) → Answers (S lo) r → Answers (Tried (suc lo) n S) t → Answers (Tried lo (suc n) S) (or_else (before lo r) t)
found_first lo n S (priced ps) t a b = (((omega arith, omega arith), a.0), least)
  where
    least : (qs : List ℕ) → Tried lo (suc n) S qs → NotAbove (lo ∷ ps) qs
    least [] h = h
    least (q ∷ qs) h =
        elim (ℕ_discrete lo q) [
          | yes e ↦ inr (e, a.1 qs (rw e h.1))
          | no k ↦ inl (omega (arith, h.0))
        ]
found_first lo n S unpriced unpriced a b = none
  where
    none : (qs : List ℕ) → Tried lo (suc n) S qs → ⊥
    none [] h = h
    none (q ∷ qs) h =
        elim (ℕ_discrete lo q) [
          | yes e ↦ a qs (rw e h.1)
          | no k ↦ b (q ∷ qs) ((omega (arith, h.0), omega (arith, h.0)), h.1)
        ]
found_first lo n S unpriced (priced []) a b = absurd b.0
found_first lo n S unpriced (priced (p ∷ ps)) a b = (((omega (arith, b.0.0), omega (arith, b.0.0)), b.0.1), least)
  where
    least : (qs : List ℕ) → Tried lo (suc n) S qs → NotAbove (p ∷ ps) qs
    least [] h = h
    least (q ∷ qs) h =
        elim (ℕ_discrete lo q) [
          | yes e ↦ absurd (a qs (rw e h.1))
          | no k ↦ b.1 (q ∷ qs) ((omega (arith, h.0), omega (arith, h.0)), h.1)
        ]

tries-answers : (n lo : ℕ) (S : ℕ → List ℕ → Type 0) (f : ℕ → LegPrices) → ((p : ℕ) → Answers (S p) (f p)) → Answers (Tried lo n S) (tries n lo f)
tries-answers zero lo S f h = none
  where
    none : (qs : List ℕ) → Tried lo 0 S qs → ⊥
    none [] k = k
    none (q ∷ qs) k = omega (arith, k.0)
tries-answers (suc n) lo S f h = found_first lo n S (f lo) (tries n (suc lo) f) (h lo) (tries-answers n (suc lo) S f h)

-- the same answer where the same solve
answers_as : (S T : List ℕ → Type 0) (r : LegPrices) → ((qs : List ℕ) → T qs → S qs) → ((qs : List ℕ) → S qs → T qs) → Answers S r → Answers T r
answers_as S T unpriced to back a = λ ps h. a ps (to ps h)
answers_as S T (priced ps) to back a = (back ps a.0, λ qs h. a.1 qs (to qs h))

pub search-answers : (gs : List Range) (paid got : ℕ) → Answers (Solves gs paid got) (search gs paid got)
unfolding search
search-answers [] paid got =
    elim (ℕ_discrete paid got) [
      | yes e ↦ rw (eq-eqb paid got e) (e, λ qs h. tt)
      | no k ↦ rw (ne_eqb paid got k) (none k)
    ]
  where
    none : (paid ≡ got → ⊥) → (qs : List ℕ) → Solves [] paid got qs → ⊥
    none k [] h = k h
    none k (q ∷ qs) h = h
search-answers (g ∷ gs) paid got =
    let S : ℕ → List ℕ → Type 0 = λ p. Solves gs (paid + part true g p) (got + part false g p) in
    let f : ℕ → LegPrices = λ p. search gs (paid + part true g p) (got + part false g p) in
    answers_as (Tried g.bid (suc g.ask - g.bid) S) (Solves (g ∷ gs) paid got) (tries (suc g.ask - g.bid) g.bid f) to back
    (tries-answers (suc g.ask - g.bid) g.bid S f (λ p. search-answers gs (paid + part true g p) (got + part false g p)))
  where
    to : (qs : List ℕ) → Solves (g ∷ gs) paid got qs → Tried g.bid (suc g.ask - g.bid) (λ p. Solves gs (paid + part true g p) (got + part false g p)) qs
    to [] h = h
    to (q ∷ qs) h = ((omega (arith, h.0), omega (arith, h.0)), h.1)

    back : (qs : List ℕ) → Tried g.bid (suc g.ask - g.bid) (λ p. Solves gs (paid + part true g p) (got + part false g p)) qs → Solves (g ∷ gs) paid got qs
    back [] h = h
    back (q ∷ qs) h = ((omega (arith, h.0), omega (arith, h.0)), h.1)
