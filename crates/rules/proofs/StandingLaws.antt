-- M-101: the records of a turn stand by price, best first, then rank, then the contra's arrival number.
use mathlib.Core.Path.{◌≡◌, refl, ap, sym, ◌∙◌}
use mathlib.Core.Bool.{Bool, true, false, true≢false}
use mathlib.Core.List.{List, [], ◌∷◌, ◌++◌}
use mathlib.Core.Logic.{inl, inr}
use Prim.Native.Nat.{ℕ, ◌-◌, ◌≤◌, ◌<◌}
use native.Mathlib.Decide.{dec_lt}
use native.Mathlib.Omega.{arith}
use borrow.Author.Tests.{eq-eqb, lt-ltb}
use Rattle.rules.specs.Basics.{All, Pairwise}
use Rattle.rules.specs.Prices.{most_biased, cents}
use Rattle.rules.specs.Book.{Entry}
use Rattle.rules.specs.State.{State}
use Rattle.rules.specs.Turn.{Rank, rank_number, key_of, Offer, tier, turn, fill_of}
use Rattle.rules.specs.Execution.{Mode, from_queue, going_live, legs_pass, rank_of, offer_of, offers_of, legs_offers, interest, up_to, all_up_to, inside, turn_of}
use Rattle.rules.specs.Best.{ranks_after, one_of}
use Rattle.rules.specs.Arrival.{Arrivals, ArrivedBefore, Cheaper, StandsBefore, Standing}
use Rattle.rules.specs.Reached.{Ordered, Inv}
use Rattle.rules.proofs.BasicsLaws.{all_map, all_both, all_append}
use Rattle.rules.proofs.TestLaws.{pick_both}
use Rattle.rules.proofs.TurnLaws.{CutAt, rank_small, turn-cut}
use Rattle.rules.proofs.SignedLaws.{cents_less}
use Rattle.rules.proofs.BestLaws.{KeyedAt, rank_order}
use Rattle.rules.proofs.RecordLaws.{Apart, Distinct, rank_of_lem, pairs-of-records}
use Rattle.rules.proofs.LegsLaws.{is_legs_rank, IsOfLegs, legs_each, legs_distinct}
use Rattle.rules.proofs.ExecuteLaws.{keyed, keyed-up_to}

-- every entry has its arrival number
abbrev pub Numbered : Arrivals → List Entry → Type 0
Numbered a es = All (λ e. a e.id ≡ e.arrival) es

-- ---- keys are prices, and numbers of ranks are ranks

key_cheaper : (buy : Bool) (p q : ℕ) → p ≤ most_biased → q ≤ most_biased → key_of buy p < key_of buy q → Cheaper buy (cents p) (cents q)
key_cheaper true p q h k l = cents_less p q (omega arith)
key_cheaper false p q h k l = cents_less q p (omega arith)

key_same : (buy : Bool) (p q : ℕ) → p ≤ most_biased → q ≤ most_biased → key_of buy p ≡ key_of buy q → p ≡ q
key_same true p q h k e = omega arith
key_same false p q h k e = omega arith

rank_after : (r x : Rank) → rank_number r < rank_number x → one_of x (ranks_after r) ≡ true
rank_after r x h = (rank_order r x).0 ∙ lt-ltb (rank_number r) (rank_number x) h

rank_same : (r x : Rank) → rank_number r ≡ rank_number x → r ≡ x
rank_same r x h = rank_of_lem r x ((rank_order r x).1 ∙ eq-eqb (rank_number r) (rank_number x) h)

-- offers of one tier have one price and rank
pub tier-same : (buy : Bool) (e f : Offer) → KeyedAt buy e → KeyedAt buy f → tier e ≡ tier f → (e.price ≡ f.price) × (e.rank ≡ f.rank)
tier-same buy e f k j l =
    let s : rank_number e.rank < 8 = rank_small e.rank in
    let z : rank_number f.rank < 8 = rank_small f.rank in
    let q : e.key ≡ f.key = omega arith in
    (key_same buy e.price f.price k.1 j.1 (sym k.0 ∙ q ∙ j.0), rank_same e.rank f.rank (omega arith))

module _ (a : Arrivals) where
  -- ---- two offers

  -- of two offers of one price and rank the later in the list arrived later, and neither is of the legs
  abbrev pub Later : Offer → Offer → Type 0
  Later e f = e.price ≡ f.price → e.rank ≡ f.rank → ArrivedBefore a e.contra f.contra × (e.arrival < f.arrival) × (is_legs_rank e.rank ≡ false)

  module _ (n i : ℕ) (buy : Bool) where
    later-tier : (e f : Offer) (g h : ℕ) → KeyedAt buy e → KeyedAt buy f → tier e < tier f → StandsBefore buy a (fill_of n i e g) (fill_of n i f h)
    later-tier e f g h k j l =
        let s : rank_number e.rank < 8 = rank_small e.rank in
        let z : rank_number f.rank < 8 = rank_small f.rank in
        elim (dec_lt e.key f.key) [
          | yes m ↦ inl (key_cheaper buy e.price f.price k.1 j.1 (omega (arith, k.0, j.0)))
          | no m ↦ (
              let q : e.key ≡ f.key = omega arith in
              inr (ap cents (key_same buy e.price f.price k.1 j.1 (sym k.0 ∙ q ∙ j.0)), inl (rank_after e.rank f.rank (omega arith)))
              )
        ]

    same-tier : (e f : Offer) (g h : ℕ) → KeyedAt buy e → KeyedAt buy f → Later e f → tier e ≡ tier f → StandsBefore buy a (fill_of n i e g) (fill_of n i f h)
    same-tier e f g h k j t l =
        let (p, r) = tier-same buy e f k j l in
        inr (ap cents p, inr (r, (t p r).0))

  -- ---- the interest

  book-rank : (m : Mode) (c : Bool) → is_legs_rank (rank_of m c) ≡ false
  book-rank from_queue c = pick_both (λ r. is_legs_rank r ≡ false) c refl refl
  book-rank going_live c = refl
  book-rank legs_pass c = refl

  -- the legs share no rank with an entry
  legs-later : (m : Mode) (o : Entry) (l : Offer) (es : List Entry) → IsOfLegs l → All (Later l) (offers_of m o es)
  legs-later m o l [] h = tt
  legs-later m o l (e ∷ es) h = (λ p r. absurd (true≢false (sym h.2 ∙ ap is_legs_rank r ∙ book-rank m e.customer)), legs-later m o l es h)

  -- nor a price and rank with each other
  legs-apart : (l : Offer) (ls : List Offer) → IsOfLegs l → All IsOfLegs ls → All (Apart l) ls → All (Later l) ls
  legs-apart l ls h p d =
      all_map (λ k. IsOfLegs k × Apart l k) (Later l) (λ k q s r. absurd (q.1 (h.0 ∙ sym q.0.0) r s)) ls (all_both IsOfLegs (Apart l) ls p d)

  entry-later : (m : Mode) (o e : Entry) (es : List Entry) → a e.id ≡ e.arrival → Numbered a es → All (λ f. (f.id ≡ e.id → ⊥) × (e.arrival < f.arrival)) es → All (Later (offer_of m o e)) (offers_of m o es)
  entry-later m o e [] h n d = tt
  entry-later m o e (f ∷ es) h n d = (λ p r. (omega (arith, h, n.0, d.0.1), d.0.1, book-rank m e.customer), entry-later m o e es h n.1 d.1)

  entries-later : (m : Mode) (o : Entry) (es : List Entry) → Numbered a es → Ordered es → Pairwise Later (offers_of m o es)
  entries-later m o [] n d = tt
  entries-later m o (e ∷ es) n d = (entry-later m o e es n.0 n.1 d.0, entries-later m o es n.1 d.1)

  front-later : (m : Mode) (o : Entry) (ls : List Offer) (es : List Entry) → All IsOfLegs ls → Distinct ls → Pairwise Later (offers_of m o es) → Pairwise Later (ls ++ offers_of m o es)
  front-later m o [] es p d q = q
  front-later m o (l ∷ ls) es p d q = (all_append (Later l) ls (offers_of m o es) (legs-apart l ls p.0 p.1 d.0) (legs-later m o l es p.0), front-later m o ls es p.1 d.1 q)

  pub interest-later : (m : Mode) (s : State) (o : Entry) → Inv s → Numbered a s.book → Pairwise Later (interest m s o)
  unfolding interest
  interest-later m s o v n = front-later m o (legs_offers m s o) s.book (legs_each m s o) (legs_distinct m s o) (entries-later m o s.book n v.order)

  later-up_to : (k : ℕ) (e : Offer) (es : List Offer) → All (Later e) es → All (Later (up_to k e)) (all_up_to k es)
  later-up_to k e [] t = tt
  later-up_to k e (f ∷ es) t = (t.0, later-up_to k e es t.1)

  all-later-up_to : (k : ℕ) (es : List Offer) → Pairwise Later es → Pairwise Later (all_up_to k es)
  all-later-up_to k [] t = tt
  all-later-up_to k (e ∷ es) t = (later-up_to k e es t.0, all-later-up_to k es t.1)

  -- ---- a turn

  pub turn-stands : (m : Mode) (s : State) (o : Entry) → Inv s → Numbered a s.book → Standing a (turn_of m s o) (turn_of m s o).records
  unfolding turn_of
  turn-stands m s o v n =
      let k : ℕ = key_of o.buy o.price in
      let near : List Offer = inside m s o in
      let gs : List ℕ = turn o.units near in
      let q : ℕ = (turn-cut o.units near).0 in
      pairs-of-records (s.clock.next - 1) o.id (KeyedAt o.buy) Later (StandsBefore o.buy a) (same-tier (s.clock.next - 1) o.id o.buy) (later-tier (s.clock.next - 1) o.id o.buy)
      (CutAt q) near gs (turn-cut o.units near).1 (keyed-up_to o.buy k (interest m s o) (keyed m s o v)) (all-later-up_to k (interest m s o) (interest-later m s o v n))
