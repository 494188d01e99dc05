-- M-101: of the lists of records that demand 3 and the sequence by arrival allow a turn, one is left.
use mathlib.Core.Path.{◌≡◌, refl, ap, ap₂, sym, ◌∙◌, subst}
use mathlib.Core.Bool.{Bool, true, false, ◌&&◌, true≢false}
use mathlib.Core.List.{List, [], ◌∷◌}
use mathlib.Core.Logic.{◌⊎◌, inl, inr}
use Prim.Native.Nat.{ℕ, ◌+◌, ◌-◌, ◌≤◌, ◌<◌}
use native.Mathlib.Omega.{arith}
use borrow.Author.Tests.{eq-eqb}
use lib.Dec.{ltb→lt}
use lib.IntN.{ℤ, pos, negsuc}
use lib.Signed.{◌<ℤ◌}
use Rattle.rules.specs.Basics.{All, Pairwise}
use Rattle.rules.specs.Prices.{most_biased, cents}
use Rattle.rules.specs.Book.{Entry}
use Rattle.rules.specs.State.{State}
use Rattle.rules.specs.Turn.{Rank, Contra, legs, entry, rank_number, Offer, Fill}
use Rattle.rules.specs.Execution.{Mode, Turn, turn_of}
use Rattle.rules.specs.Best.{letter, same_rank, ranks_after, one_of}
use Rattle.rules.specs.Demand.{same_contra, same_cents, is_of, took, way_of, Named, Mark, Once, taker_of, GoodTurn}
use Rattle.rules.specs.Arrival.{Arrivals, ArrivedBefore, Cheaper, StandsBefore, Standing}
use Rattle.rules.specs.Reached.{Inv}
use Rattle.rules.proofs.TestLaws.{lt_of, eq_of, and_left, and_right, not_so}
use Rattle.rules.proofs.BestLaws.{rank_order}
use Rattle.rules.proofs.RecordLaws.{contra_same, contra_of_lem, rank_of_lem, Differ}
use Rattle.rules.proofs.ExecuteLaws.{keyed, good_turn}
use Rattle.rules.proofs.StandingLaws.{Numbered, interest-later, turn-stands}
use Rattle.rules.proofs.UniqueLaws.{best-unique}

-- ---- no two records stand before each other

lt_both : (x y : ℤ) → x <ℤ y → y <ℤ x → ⊥
lt_both (pos a) (pos b) h k = omega (arith, ltb→lt a b h.lt, ltb→lt b a k.lt)
lt_both (pos a) (negsuc b) h k = h.lt
lt_both (negsuc a) (pos b) h k = k.lt
lt_both (negsuc a) (negsuc b) h k = omega (arith, ltb→lt b a h.lt, ltb→lt a b k.lt)

cheaper_both : (buy : Bool) (p q : ℤ) → Cheaper buy p q → Cheaper buy q p → ⊥
cheaper_both true p q h k = lt_both p q h k
cheaper_both false p q h k = lt_both q p h k

cheaper-same : (buy : Bool) (p q : ℤ) → Cheaper buy p q → p ≡ q → ⊥
cheaper-same buy p q h e = let k : Cheaper buy q q = subst (λ (x : ℤ). Cheaper buy x q) e h in cheaper_both buy q q k k

after_less : (r x : Rank) → one_of x (ranks_after r) ≡ true → rank_number r < rank_number x
after_less r x h = lt_of (rank_number r) (rank_number x) (sym (rank_order r x).0 ∙ h)

-- a list has a record
abbrev Has : Fill → List Fill → Type 0
Has f [] = ⊥
Has f (g ∷ gs) = (g ≡ f) ⊎ Has f gs

all_has : (P : Fill → Type 0) (f : Fill) (gs : List Fill) → All P gs → Has f gs → P f
all_has P f [] p h = absurd h
all_has P f (g ∷ gs) p (inl e) = subst P e p.0
all_has P f (g ∷ gs) p (inr h) = all_has P f gs p.1 h

arrived_both : (a : Arrivals) (c d : Contra) → ArrivedBefore a c d → ArrivedBefore a d c → ⊥
arrived_both a legs d h k = h
arrived_both a (entry i) legs h k = h
arrived_both a (entry i) (entry j) h k = omega arith

module _ (buy : Bool) (a : Arrivals) where
  stands-both : (f g : Fill) → StandsBefore buy a f g → StandsBefore buy a g f → ⊥
  stands-both f g (inl p) (inl q) = cheaper_both buy f.price g.price p q
  stands-both f g (inl p) (inr q) = cheaper-same buy f.price g.price p (sym q.0)
  stands-both f g (inr p) (inl q) = cheaper-same buy g.price f.price q (sym p.0)
  stands-both f g (inr p) (inr q) = go p.1 q.1
    where
      go : (one_of g.rank (ranks_after f.rank) ≡ true) ⊎ ((f.rank ≡ g.rank) × (ArrivedBefore a f.contra g.contra))
          → (one_of f.rank (ranks_after g.rank) ≡ true) ⊎ ((g.rank ≡ f.rank) × (ArrivedBefore a g.contra f.contra)) → ⊥
      go (inl x) (inl y) = omega (arith, after_less f.rank g.rank x, after_less g.rank f.rank y)
      go (inl x) (inr y) = omega (arith, after_less f.rank g.rank x, ap rank_number y.0)
      go (inr x) (inl y) = omega (arith, after_less g.rank f.rank y, ap rank_number x.0)
      go (inr x) (inr y) = arrived_both a f.contra g.contra x.1 y.1

  -- ---- lists that stand, with the same records

  heads : (f g : Fill) (fs gs : List Fill) → Pairwise (StandsBefore buy a) (f ∷ fs) → Pairwise (StandsBefore buy a) (g ∷ gs) → Has f (g ∷ gs) → Has g (f ∷ fs) → f ≡ g
  heads f g fs gs s t (inl e) k = sym e
  heads f g fs gs s t (inr h) (inl e) = e
  heads f g fs gs s t (inr h) (inr k) = absurd (stands-both f g (all_has (StandsBefore buy a f) g fs s.0 k) (all_has (StandsBefore buy a g) f gs t.0 h))

  tail-has : (f g x : Fill) (gs : List Fill) → f ≡ g → StandsBefore buy a f x → Has x (g ∷ gs) → Has x gs
  tail-has f g x gs e s (inl p) = let k : StandsBefore buy a f f = subst (λ (y : Fill). StandsBefore buy a f y) (sym (e ∙ p)) s in absurd (stands-both f f k k)
  tail-has f g x gs e s (inr h) = h

  same-list : (fs gs : List Fill) → Pairwise (StandsBefore buy a) fs → Pairwise (StandsBefore buy a) gs → ((x : Fill) → Has x fs → Has x gs) → ((x : Fill) → Has x gs → Has x fs) → fs ≡ gs
  same-list [] [] s t h k = refl
  same-list [] (g ∷ gs) s t h k = absurd (k g (inl refl))
  same-list (f ∷ fs) [] s t h k = absurd (h f (inl refl))
  same-list (f ∷ fs) (g ∷ gs) s t h k =
      let e : f ≡ g = heads f g fs gs s t (h f (inl refl)) (k g (inl refl)) in
      ap₂ (λ (x : Fill) (l : List Fill). x ∷ l) e
      (same-list fs gs s.1 t.1 (λ x p. tail-has f g x gs e (all_has (StandsBefore buy a f) x fs s.0 p) (h x (inr p)))
      (λ x p. tail-has g f x fs (sym e) (all_has (StandsBefore buy a g) x gs t.0 p) (k x (inr p))))

-- ---- records of one way

cents_of_lem : (p q : ℤ) → same_cents p q ≡ true → p ≡ q
cents_of_lem (pos a) (pos b) h = ap pos (eq_of a b h)
cents_of_lem (pos a) (negsuc b) h = absurd (true≢false (sym h))
cents_of_lem (negsuc a) (pos b) h = absurd (true≢false (sym h))
cents_of_lem (negsuc a) (negsuc b) h = ap negsuc (eq_of a b h)

cents_self : (p : ℤ) → same_cents p p ≡ true
cents_self (pos a) = eq-eqb a a refl
cents_self (negsuc a) = eq-eqb a a refl

-- a record is of an offer
abbrev Match : Fill → Offer → Type 0
Match f e = (f.contra ≡ e.contra) × (f.rank ≡ e.rank) × (f.price ≡ cents e.price)

match_of : (f : Fill) (e : Offer) → is_of f e ≡ true → Match f e
match_of f e h =
    let c : Bool = same_contra f.contra e.contra in
    let r : Bool = same_rank f.rank e.rank in
    let p : Bool = same_cents f.price (cents e.price) in
    (contra_of_lem f.contra e.contra (and_left c r (and_left (c && r) p h)), rank_of_lem f.rank e.rank (and_right c r (and_left (c && r) p h)), cents_of_lem f.price (cents e.price) (and_right (c && r) p h))

of_match : (f : Fill) (e : Offer) → Match f e → is_of f e ≡ true
of_match f e m = rw (m.0, m.1, m.2, contra_same e.contra, eq-eqb (letter e.rank) (letter e.rank) refl, cents_self (cents e.price))

took_none : (f : Fill) (e : Offer) (gs : List Fill) → Match f e → All (Differ f) gs → took gs e ≡ 0
took_none f e [] m a = refl
took_none f e (g ∷ gs) m a =
    let n : is_of g e ≡ false = not_so (is_of g e) (λ h. let k : Match g e = match_of g e h in a.0 (k.0 ∙ sym m.0) (k.1 ∙ sym m.1) (k.2 ∙ sym m.2)) in
    rw n (omega (arith, took_none f e gs m a.1))

-- the only record of an offer gives it its units
took_one : (f : Fill) (e : Offer) (gs : List Fill) → Match f e → Once gs → Has f gs → took gs e ≡ f.units
took_one f e [] m o h = absurd h
took_one f e (g ∷ gs) m o (inl p) =
    let k : Match g e = subst (λ (x : Fill). Match x e) (sym p) m in
    rw (of_match g e k) (omega (arith, took_none g e gs k o.0, ap (λ (x : Fill). x.units) p))
took_one f e (g ∷ gs) m o (inr h) =
    let n : is_of g e ≡ false = not_so (is_of g e) (λ z. let k : Match g e = match_of g e z in
    all_has (Differ g) f gs o.0 h (m.0 ∙ sym k.0) (m.1 ∙ sym k.1) (m.2 ∙ sym k.2)) in
    rw n (omega (arith, took_one f e gs m o.1 h))

-- where units are taken from an offer there is a record of it
took_some : (e : Offer) (gs : List Fill) → 0 < took gs e → (g : Fill) × Has g gs × Match g e
took_some e [] h = absurd (omega arith)
took_some e (g ∷ gs) h = go (is_of g e) refl (λ l. took_some e gs l)
  where
    rest : (0 < took gs e → (x : Fill) × Has x gs × Match x e) → is_of g e ≡ false → (x : Fill) × Has x (g ∷ gs) × Match x e
    rest c n = let k : 0 < 0 + took gs e = rw n at h in let d : (x : Fill) × Has x gs × Match x e = c (omega arith) in (d.0, inr d.1, d.2)

    go : (b : Bool) → is_of g e ≡ b → (0 < took gs e → (x : Fill) × Has x gs × Match x e) → (x : Fill) × Has x (g ∷ gs) × Match x e
    go true p c = (g, inl refl, match_of g e p)
    go false p c = rest c p

-- the offer that a record names, and what two lists of one way give it
named-at : (f : Fill) (rs ss : List Fill) (es : List Offer) → way_of rs es ≡ way_of ss es → Named f es → (e : Offer) × Match f e × (took rs e ≡ took ss e)
named-at f rs ss [] w n = absurd n
named-at f rs ss (e ∷ es) w (inl m) = (e, m, ap head_or w)
  where
    head_or : List ℕ → ℕ
    head_or [] = 0
    head_or (x ∷ xs) = x
named-at f rs ss (e ∷ es) w (inr n) = named-at f rs ss es (ap tail_of w) n
  where
    tail_of : List ℕ → List ℕ
    tail_of [] = []
    tail_of (x ∷ xs) = xs

fill-same : (f g : Fill) → f.number ≡ g.number → f.order ≡ g.order → f.rank ≡ g.rank → f.contra ≡ g.contra → f.price ≡ g.price → f.units ≡ g.units → f ≡ g
fill-same f g a b c d e u = λ i. record { number = a i; order = b i; rank = c i; contra = d i; price = e i; units = u i }

-- a record of one is a record of the other
within : (n : ℕ) (t : Turn) (rs ss : List Fill) → GoodTurn n t rs → GoodTurn n t ss → way_of rs t.offers ≡ way_of ss t.offers → (f : Fill) → Has f rs → Has f ss
within n t rs ss p q w f h =
    let m : Mark n t f = all_has (Mark n t) f rs p.marks h in
    let (e, k, x) = named-at f rs ss t.offers w m.named in
    let y : took rs e ≡ f.units = took_one f e rs k p.once h in
    let (g, i, j) = took_some e ss (omega (arith, m.some)) in
    let z : took ss e ≡ g.units = took_one g e ss j q.once i in
    let l : Mark n t g = all_has (Mark n t) g ss q.marks i in
    let s : g ≡ f = fill-same g f (l.number ∙ sym m.number) (l.order ∙ sym m.order) (j.1 ∙ sym k.1) (j.0 ∙ sym k.0) (j.2 ∙ sym k.2) (omega arith) in
    subst (λ (v : Fill). Has v ss) s i

-- ---- a turn

one_best : (a : Arrivals) (m : Mode) (s : State) (o : Entry) (rs : List Fill) → Inv s → Numbered a s.book
    → GoodTurn (s.clock.next - 1) (turn_of m s o) rs → GoodTurn (s.clock.next - 1) (turn_of m s o) (turn_of m s o).records → way_of rs (turn_of m s o).offers ≡ way_of (turn_of m s o).records (turn_of m s o).offers
unfolding turn_of
one_best a m s o rs v n p q =
    let t : Turn = turn_of m s o in
    best-unique a (taker_of t) t.offers (keyed m s o v) (way_of rs t.offers) (way_of t.records t.offers) (interest-later a m s o v n) p.best q.best

pub turn_fixed : (a : Arrivals) (m : Mode) (s : State) (o : Entry) (rs : List Fill) → Inv s → o.price ≤ most_biased → Numbered a s.book
    → GoodTurn (s.clock.next - 1) (turn_of m s o) rs → Standing a (turn_of m s o) rs → rs ≡ (turn_of m s o).records
turn_fixed a m s o rs v j n p x =
    let t : Turn = turn_of m s o in
    let q : GoodTurn (s.clock.next - 1) t t.records = good_turn m s o v j in
    let w : way_of rs t.offers ≡ way_of t.records t.offers = one_best a m s o rs v n p q in
    same-list t.order.buy a rs t.records x (turn-stands a m s o v n) (within (s.clock.next - 1) t rs t.records p q w) (within (s.clock.next - 1) t t.records rs q p (sym w))
