-- The search is one for a sum, and it finds prices exactly where the legs can make the sum.
use mathlib.Core.Path.{◌≡◌, refl, ap, ap₂, sym, ◌∙◌}
use mathlib.Core.Bool.{Bool, true, false, ◌&&◌, ◌||◌, true≢false}
use mathlib.Core.List.{List, [], ◌∷◌}
use Prim.Native.Nat.{ℕ, zero, suc, ◌+◌, ◌-◌, ◌*◌, ◌≤◌, ◌<◌}
use native.Mathlib.Decide.{ℕ_discrete, dec_le}
use native.Mathlib.Omega.{arith}
use borrow.Author.Tests.{eq-eqb, ne_eqb, le-leb, lt-leb}
use lib.Dec.{eqb, leb}
use Rattle.rules.specs.Basics.{pick, All}
use Rattle.rules.specs.LegPrices.{LegPrices, unpriced, priced, Range, before, or_else, tries, part, search}
use Rattle.legprices.specs.Sums.{any_of, reach}
use Rattle.legprices.specs.Found.{counts, takes, found, least_paid, most_got, spans_of, is_priced, first}
use Rattle.legprices.proofs.SumLaws.{same_test, any_some, any_which}

-- a bid is not above its ask
abbrev pub Ordered : Range → Type 0
Ordered g = g.bid ≤ g.ask

-- ---- the search for a sum

tries-same : (n p : ℕ) (f h : ℕ → LegPrices) → ((q : ℕ) → p ≤ q → q < p + n → f q ≡ h q) → tries n p f ≡ tries n p h
tries-same zero p f h e = refl
tries-same (suc n) p f h e =
    ap₂ (λ (a : LegPrices) (b : LegPrices). or_else (before p a) b) (e p (omega arith) (omega arith)) (tries-same n (suc p) f h (λ q u v. e q (omega arith) (omega arith)))

tries_none : (n p : ℕ) (f : ℕ → LegPrices) → ((q : ℕ) → p ≤ q → q < p + n → f q ≡ unpriced) → tries n p f ≡ unpriced
tries_none zero p f e = refl
tries_none (suc n) p f e = rw (e p (omega arith) (omega arith)) (tries_none n (suc p) f (λ q u v. e q (omega arith) (omega arith)))

-- what a price leaves between what is paid and what is got
balance : (g : Range) (paid got l m p : ℕ) → g.bid ≤ p → p ≤ g.ask
    → paid + part true g p + l + (got + (part false g g.ask + m)) ≡ takes g p + (got + part false g p + m) + (paid + (part true g g.bid + l))
balance g paid got l m p lo hi = go g.plus
  where
    go : (b : Bool) → paid + pick b (g.ratio * p) 0 + l + (got + (pick b 0 (g.ratio * g.ask) + m))
        ≡ g.ratio * counts b (g.ask - g.bid) (p - g.bid) + (got + pick b 0 (g.ratio * p) + m) + (paid + (pick b (g.ratio * g.bid) 0 + l))
    go true =
        let e : p ≡ g.bid + (p - g.bid) = omega arith in
        omega (arith, ap (λ (t : ℕ). g.ratio * t) e)
    go false =
        let e : g.ask ≡ p + (g.ask - g.bid - (p - g.bid)) = omega arith in
        omega (arith, ap (λ (t : ℕ). g.ratio * t) e)

-- two pairs of numbers as far apart
same_room : (f : ℕ → LegPrices) (a b c d : ℕ) → a + d ≡ c + b → pick (leb a b) (f (b - a)) unpriced ≡ pick (leb c d) (f (d - c)) unpriced
same_room f a b c d e =
    let q : b - a ≡ d - c = omega arith in
    elim (dec_le a b) [
      | yes k ↦ rw (le-leb a b k, le-leb c d (omega arith), q)
      | no k ↦ rw (lt-leb a b (omega arith), lt-leb c d (omega arith))
    ]

search-found : (gs : List Range) (paid got : ℕ) → All Ordered gs
    → search gs paid got ≡ pick (leb (paid + least_paid gs) (got + most_got gs)) (found gs (got + most_got gs - (paid + least_paid gs))) unpriced
unfolding search found
search-found [] paid got h =
    elim (dec_le paid got) [
      | yes k ↦ rw (le-leb (paid + 0) (got + 0) (omega arith)) (elim (ℕ_discrete paid got) [
        | yes e ↦ rw (eq-eqb paid got e, eq-eqb (got + 0 - (paid + 0)) 0 (omega arith))
        | no n ↦ rw (ne_eqb paid got n, ne_eqb (got + 0 - (paid + 0)) 0 (λ z. n (omega arith)))
      ])
      | no k ↦ rw (lt-leb (paid + 0) (got + 0) (omega arith), ne_eqb paid got (λ z. k (omega arith)))
    ]
search-found (g ∷ gs) paid got h =
    let l : ℕ = least_paid gs in
    let m : ℕ = most_got gs in
    let P : ℕ = paid + (part true g g.bid + l) in
    let G : ℕ = got + (part false g g.ask + m) in
    let n : ℕ = suc g.ask - g.bid in
    let f : ℕ → LegPrices = λ p. search gs (paid + part true g p) (got + part false g p) in
    let o : g.bid ≤ g.ask = h.0 in
    elim (dec_le P G) [
      | yes k ↦ rw (le-leb P G k) (tries-same n g.bid f (λ p. pick (leb (takes g p) (G - P)) (found gs (G - P - takes g p)) unpriced) (λ q u v.
          search-found gs (paid + part true g q) (got + part false g q) h.1
          ∙ same_room (found gs) (paid + part true g q + l) (got + part false g q + m) (takes g q) (G - P) (omega (arith, balance g paid got l m q u (omega arith)))))
      | no k ↦ rw (lt-leb P G (omega arith)) (tries_none n g.bid f (λ q u v.
          search-found gs (paid + part true g q) (got + part false g q) h.1
          ∙ rw (lt-leb (paid + part true g q + l) (got + part false g q + m) (omega (arith, balance g paid got l m q u (omega arith))))))
    ]

module _ (gs : List Range) (paid got l m : ℕ) (h : All Ordered gs) (e : l ≡ least_paid gs) (z : m ≡ most_got gs) where
  pub search-none : got + m < paid + l → search gs paid got ≡ unpriced
  search-none k = search-found gs paid got h ∙ rw (← e, ← z, lt-leb (paid + l) (got + m) k)

  pub search-sum : paid + l ≤ got + m → search gs paid got ≡ found gs (got + m - (paid + l))
  search-sum k = search-found gs paid got h ∙ rw (← e, ← z, le-leb (paid + l) (got + m) k)

-- ---- prices are found where the legs can make the sum

before-priced : (p : ℕ) (r : LegPrices) → is_priced (before p r) ≡ is_priced r
before-priced p unpriced = refl
before-priced p (priced ps) = refl

or_priced : (r t : LegPrices) → is_priced (or_else r t) ≡ (is_priced r || is_priced t)
or_priced unpriced t = refl
or_priced (priced ps) t = refl

tries-priced : (n p : ℕ) (f : ℕ → LegPrices) → is_priced (tries n p f) ≡ any_of n p (λ q. is_priced (f q))
tries-priced zero p f = refl
tries-priced (suc n) p f = or_priced (before p (f p)) (tries n (suc p) f) ∙ ap₂ (λ (a : Bool) (b : Bool). a || b) (before-priced p (f p)) (tries-priced n (suc p) f)

pub pick-priced : (b : Bool) (r : LegPrices) → is_priced (pick b r unpriced) ≡ (b && is_priced r)
pick-priced true r = refl
pick-priced false r = refl

pub counts_most : (b : Bool) (w x : ℕ) → x ≤ w → counts b w x ≤ w
counts_most true w x h = h
counts_most false w x h = omega arith

counts_twice : (b : Bool) (w x : ℕ) → x ≤ w → counts b w (counts b w x) ≡ x
counts_twice true w x h = refl
counts_twice false w x h = omega arith

pub found-reach : (gs : List Range) (s : ℕ) → All Ordered gs → is_priced (found gs s) ≡ reach (spans_of gs) s
unfolding found reach
found-reach [] s h = pick-priced (eqb s 0) (priced []) ∙ and_true (eqb s 0)
  where
    and_true : (b : Bool) → (b && true) ≡ b
    and_true true = refl
    and_true false = refl
found-reach (g ∷ gs) s h =
    let w : ℕ = g.ask - g.bid in
    let n : ℕ = suc g.ask - g.bid in
    let o : g.bid ≤ g.ask = h.0 in
    let f : ℕ → LegPrices = λ p. pick (leb (takes g p) s) (found gs (s - takes g p)) unpriced in
    let T : ℕ → Bool = λ y. leb (g.ratio * y) s && reach (spans_of gs) (s - g.ratio * y) in
    let e : (q : ℕ) → is_priced (f q) ≡ T (counts g.plus w (q - g.bid)) =
    λ q. pick-priced (leb (takes g q) s) (found gs (s - takes g q)) ∙ ap (λ (b : Bool). leb (takes g q) s && b) (found-reach gs (s - takes g q) h.1) in
    tries-priced n g.bid f
    ∙ same_test (any_of n g.bid (λ q. is_priced (f q))) (any_of (suc w) 0 T)
    (λ k.
    let r = any_which n g.bid (λ q. is_priced (f q)) k in
    let q : ℕ = r.0 in
    any_some (suc w) 0 T (counts g.plus w (q - g.bid)) (omega arith) (omega (arith, r.1, r.2, counts_most g.plus w (q - g.bid) (omega (arith, r.1, r.2)))) (sym (e q) ∙ r.3))
    (λ k.
    let r = any_which (suc w) 0 T k in
    let y : ℕ = r.0 in
    let x : ℕ = counts g.plus w y in
    let b : x ≤ w = counts_most g.plus w y (omega (arith, r.2)) in
    let z : g.bid + x - g.bid ≡ x = omega arith in
    any_some n g.bid (λ q. is_priced (f q)) (g.bid + x) (omega arith) (omega arith)
    (e (g.bid + x) ∙ ap (λ (t : ℕ). T (counts g.plus w t)) z ∙ ap T (counts_twice g.plus w y (omega (arith, r.2))) ∙ r.3))

-- ---- the first price that does

or_hit : (r t : LegPrices) → is_priced r ≡ true → or_else r t ≡ r
or_hit unpriced t h = absurd (true≢false (sym h))
or_hit (priced ps) t h = refl

or_miss : (r t : LegPrices) → is_priced r ≡ false → or_else r t ≡ t
or_miss unpriced t h = refl
or_miss (priced ps) t h = absurd (true≢false h)

module _ (b : ℕ) (f : ℕ → LegPrices) (c : ℕ → Bool) (e : (k : ℕ) → is_priced (f (b + k)) ≡ c k) where
  try-hit : (n x : ℕ) → c x ≡ true → tries (suc n) (b + x) f ≡ before (b + x) (f (b + x))
  try-hit n x h = or_hit (before (b + x) (f (b + x))) (tries n (suc (b + x)) f) (before-priced (b + x) (f (b + x)) ∙ e x ∙ h)

  try-miss : (n x : ℕ) → c x ≡ false → tries (suc n) (b + x) f ≡ tries n (b + suc x) f
  try-miss n x h =
      let z : suc (b + x) ≡ b + suc x = omega arith in
      or_miss (before (b + x) (f (b + x))) (tries n (suc (b + x)) f) (before-priced (b + x) (f (b + x)) ∙ e x ∙ h) ∙ ap (λ (p : ℕ). tries n p f) z

  pub tries-first : (n x : ℕ) → first n x c < x + n → tries n (b + x) f ≡ before (b + first n x c) (f (b + first n x c))
  tries-first zero x h = absurd (omega arith)
  tries-first (suc n) x h = go (c x) refl h (tries-first n (suc x))
    where
      go : (t : Bool) → c x ≡ t → pick t x (first n (suc x) c) < x + suc n
          → (first n (suc x) c < suc x + n → tries n (b + suc x) f ≡ before (b + first n (suc x) c) (f (b + first n (suc x) c)))
          → tries (suc n) (b + x) f ≡ before (b + pick t x (first n (suc x) c)) (f (b + pick t x (first n (suc x) c)))
      go true k u later = try-hit n x k
      go false k u later = try-miss n x k ∙ later (omega arith)

  pub tries-last : (n x : ℕ) → x + n ≤ first n x c → tries n (b + x) f ≡ unpriced
  tries-last zero x h = refl
  tries-last (suc n) x h = go (c x) refl h (tries-last n (suc x))
    where
      go : (t : Bool) → c x ≡ t → x + suc n ≤ pick t x (first n (suc x) c) → (suc x + n ≤ first n (suc x) c → tries n (b + suc x) f ≡ unpriced) → tries (suc n) (b + x) f ≡ unpriced
      go true k u later = absurd (omega arith)
      go false k u later = try-miss n x k ∙ later (omega arith)
