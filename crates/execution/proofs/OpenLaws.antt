-- What is open to an order, slot by slot: an offer from its tier and units, and what is open to an order as a table.
use mathlib.Core.Path.{◌≡◌, refl, ap, ap₂, sym, ◌∙◌}
use mathlib.Core.List.{List, [], ◌∷◌, ◌++◌}
use Prim.Native.Nat.{ℕ, zero, suc, ◌+◌, ◌-◌, ◌*◌, ◌/◌, ◌%◌, ◌≤◌, ◌<◌}
use native.Mathlib.Omega.{arith}
use borrow.Author.Count.{below_more}
use borrow.Author.Tests.{lt-ltb, le-ltb}
use lib.ListN.{length, get_or, set}
use lib.Seq.{get_or-set_same, get_or-set_other}
use Rattle.rules.specs.Prices.{Derived}
use Rattle.rules.specs.Book.{Entry}
use Rattle.rules.specs.State.{contra_price}
use Rattle.rules.specs.Turn.{Rank, L, C, N, T, R, rank_number, legs, entry, key_of, Offer, tier}
use Rattle.rules.specs.Execution.{Mode, offers_of, legs_lead, split_offers, all_up_to, interest, inside}
use Rattle.types.specs.View.{upto, from, rank_from}
use Rattle.types.proofs.TableLaws.{from_cons}
use Rattle.state.specs.View.{entry_at, open_count, auction_of, state_of}
use Rattle.state.proofs.TableLaws.{from-same}
use Rattle.execution.specs.Slots.{offer_in, offers_in, Ranked, legs_within, book_offer, Stand}

-- ---- an offer's key and rank, from its tier

key_back : (k : ℕ) (r : Rank) → (k * 8 + rank_number r) / 8 ≡ k
key_back k L = omega arith
key_back k C = omega arith
key_back k N = omega arith
key_back k T = omega arith
key_back k R = omega arith

rank_back : (k : ℕ) (r : Rank) → rank_from ((k * 8 + rank_number r) % 8) ≡ r
rank_back k L = let z : (k * 8 + 0) % 8 ≡ 0 = omega arith in rw z
rank_back k C = let z : (k * 8 + 1) % 8 ≡ 1 = omega arith in rw z
rank_back k N = let z : (k * 8 + 2) % 8 ≡ 2 = omega arith in rw z
rank_back k T = let z : (k * 8 + 3) % 8 ≡ 3 = omega arith in rw z
rank_back k R = let z : (k * 8 + 4) % 8 ≡ 4 = omega arith in rw z

rank_most : (k : ℕ) (r : Rank) → (k * 8 + rank_number r) % 8 ≤ 4
rank_most k L = omega arith
rank_most k C = omega arith
rank_most k N = omega arith
rank_most k T = omega arith
rank_most k R = omega arith

-- ---- the loop over the book

pub stand_next : (offer : ℕ → Offer) (i : ℕ) (ps us : List ℕ) (x y : ℕ) → i + 2 < length ps → i + 2 < length us → x ≡ tier (offer i) → y ≡ (offer i).units
    → Stand offer i ps us → Stand offer (i + 1) (set ps (i + 2) x) (set us (i + 2) y)
stand_next offer i ps us x y hp hu ex ey s =
    below_more (λ j. (get_or (set ps (i + 2) x) (j + 2) 0 ≡ tier (offer j)) × (get_or (set us (i + 2) y) (j + 2) 0 ≡ (offer j).units)) i
    (λ j h. (get_or-set_other ps (i + 2) (j + 2) x 0 (λ e. omega arith) ∙ (s j h).0, get_or-set_other us (i + 2) (j + 2) y 0 (λ e. omega arith) ∙ (s j h).1))
    (get_or-set_same ps (i + 2) x 0 hp ∙ ex, get_or-set_same us (i + 2) y 0 hu ∙ ey)

-- ---- what is open to an order, as a table

-- two stores at the front of a list
first_two : (l : List ℕ) (x y : ℕ) → 1 < length l → (get_or (set (set l 0 x) 1 y) 0 0 ≡ x) × (get_or (set (set l 0 x) 1 y) 1 0 ≡ y) × ((i : ℕ) → get_or (set (set l 0 x) 1 y) (suc (suc i)) 0 ≡ get_or l (suc (suc i)) 0)
first_two [] x y h = absurd (omega arith)
first_two (a ∷ []) x y h = absurd (omega arith)
first_two (a ∷ b ∷ l) x y h = (refl, refl, λ i. refl)

-- some slots on
upto_on : {A : Type 0} (a : ℕ) (f g : ℕ → A) → ((i : ℕ) → f (i + a) ≡ g i) → (k n : ℕ) → upto f (k + a) n ≡ upto g k n
unfolding upto
upto_on a f g p k zero = refl
upto_on a f g p k (suc n) = let z : k + a + 1 ≡ k + 1 + a = omega arith in rw z (ap₂ (λ x l. x ∷ l) (p k) (upto_on a f g p (k + 1) n))

-- the order at place k, where d is its derived contra price
module _ (m : Mode) (longs words : List ℕ) (k : ℕ) (d : Derived) (D : d ≡ contra_price (state_of longs words) (entry_at longs words k).buy) where
  abbrev of_legs : Rank → ℕ → Offer
  of_legs r n = legs_within longs words k d.price r n

  -- how many units are of rank L
  abbrev lead : ℕ
  lead = legs_lead m (auction_of longs words) (entry_at longs words k).buy d

  -- the offer in a slot
  abbrev table : ℕ → Offer
  table zero = of_legs L lead
  table (suc zero) = of_legs T (d.units - lead)
  table (suc (suc i)) = book_offer m longs words k i

  upto-book : (j n : ℕ) → all_up_to (key_of (entry_at longs words k).buy (entry_at longs words k).price) (offers_of m (entry_at longs words k) (upto (entry_at longs words) j n)) ≡ upto (book_offer m longs words k) j n
  unfolding upto
  upto-book j zero = refl
  upto-book j (suc n) = ap (λ (l : List Offer). book_offer m longs words k j ∷ l) (upto-book (j + 1) n)

  inside-table : inside m (state_of longs words) (entry_at longs words k) ≡ from table 0 (open_count words + 2)
  unfolding interest
  inside-table =
      let n : ℕ = open_count words in
      let o : Entry = entry_at longs words k in
      let q : n + 2 - (0 + 2) ≡ n - 0 = omega arith in
      let on : (i : ℕ) → table (i + 2) ≡ book_offer m longs words k i = λ i. (let z : i + 2 ≡ suc (suc i) = omega arith in ap table z) in
      ap (λ (x : Derived). all_up_to (key_of o.buy o.price) (split_offers (legs_lead m (auction_of longs words) o.buy) o.buy (x ∷ []) ++ offers_of m o (from (entry_at longs words) 0 n))) (sym D)
      ∙ ap (λ (l : List Offer). table 0 ∷ table 1 ∷ l) (upto-book 0 (n - 0) ∙ sym (rw q (upto_on 2 table (book_offer m longs words k) on 0 (n - 0))))
      ∙ sym (from_cons table 0 (n + 2) (omega arith) ∙ ap (λ (l : List Offer). table 0 ∷ l) (from_cons table 1 (n + 2) (omega arith)))

  -- an offer from its slot
  module _ (ps us : List ℕ) where
    abbrev In : ℕ → Offer → Type 0
    In s e = (get_or ps s 0 ≡ tier e) × (get_or us s 0 ≡ e.units)

    key_in : (s : ℕ) (e : Offer) → In s e → get_or ps s 0 / 8 ≡ e.key
    key_in s e h = ap (λ (x : ℕ). x / 8) h.0 ∙ key_back e.key e.rank

    rank-in : (s : ℕ) (e : Offer) → In s e → rank_from (get_or ps s 0 % 8) ≡ e.rank
    rank-in s e h = ap (λ (x : ℕ). rank_from (x % 8)) h.0 ∙ rank_back e.key e.rank

    legs-in : (s : ℕ) (r : Rank) (n : ℕ) → s < 2 → In s (of_legs r n) → offer_in longs words d.price ps us s ≡ of_legs r n
    legs-in s r n b h = rw (lt-ltb s 2 b) (λ i. record { contra = legs; price = d.price; key = key_in s (of_legs r n) h i; rank = rank-in s (of_legs r n) h i; units = h.1 i; arrival = 0 })

    offer-is : (s : ℕ) → In s (table s) → offer_in longs words d.price ps us s ≡ table s
    offer-is zero h = legs-in 0 L lead (omega arith) h
    offer-is (suc zero) h = legs-in 1 T (d.units - lead) (omega arith) h
    offer-is (suc (suc j)) h =
        let e : Entry = entry_at longs words j in
        let q : suc (suc j) - 2 ≡ j = omega arith in
        rw (le-ltb (suc (suc j)) 2 (omega arith), q) (λ i. record { contra = entry e.id; price = e.price; key = key_in (suc (suc j)) (table (suc (suc j))) h i; rank = rank-in (suc (suc j)) (table (suc (suc j))) h i; units = h.1 i; arrival = e.arrival })

  -- the legs' slots, and those of the book
  module _ (ps us : List ℕ) (x y u v : ℕ) (hp : 1 < length ps) (hu : 1 < length us) (ex : x ≡ tier (table 0)) (ey : y ≡ tier (table 1)) (eu : u ≡ (table 0).units) (ev : v ≡ (table 1).units)
      (book : Stand (book_offer m longs words k) (open_count words) ps us) where
    slot : (s : ℕ) → s < open_count words + 2 → In (set (set ps 0 x) 1 y) (set (set us 0 u) 1 v) s (table s)
    slot zero h = ((first_two ps x y hp).0 ∙ ex, (first_two us u v hu).0 ∙ eu)
    slot (suc zero) h = ((first_two ps x y hp).1 ∙ ey, (first_two us u v hu).1 ∙ ev)
    slot (suc (suc i)) h =
        let z : i + 2 ≡ suc (suc i) = omega arith in
        let w = rw z at (book i (omega arith)) in
        ((first_two ps x y hp).2 i ∙ w.0, (first_two us u v hu).2 i ∙ w.1)

    pub slots-ranked : Ranked (open_count words + 2) (set (set ps 0 x) 1 y)
    slots-ranked s h = rw (slot s h).0 (rank_most (table s).key (table s).rank)

    pub slots-are : offers_in longs words d.price (set (set ps 0 x) 1 y) (set (set us 0 u) 1 v) (open_count words + 2) ≡ inside m (state_of longs words) (entry_at longs words k)
    slots-are =
        from-same (offer_in longs words d.price (set (set ps 0 x) 1 y) (set (set us 0 u) 1 v)) table 0 (open_count words + 2) (λ s a h. offer-is (set (set ps 0 x) 1 y) (set (set us 0 u) 1 v) s (slot s h)) ∙ sym inside-table
