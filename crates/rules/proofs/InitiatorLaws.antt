-- The initiator stays in the queue of its auction, ahead of the others, until it is cancelled or the auction ends; after its cancel the next one leads.
use mathlib.Core.Path.{◌≡◌, refl, ap, sym, ◌∙◌, subst}
use mathlib.Core.Bool.{Bool, true, false, ◌&&◌, ◌||◌, not, true≢false}
use mathlib.Core.List.{List, [], ◌∷◌, ◌++◌}
use mathlib.Core.Logic.{◌⊎◌, inl, inr}
use Prim.Native.Nat.{ℕ, ◌-◌, ◌<◌}
use native.Mathlib.Decide.{ℕ_discrete, dec_lt}
use native.Mathlib.Omega.{arith}
use borrow.Author.Tests.{eq-eqb, ne_eqb, lt-ltb, le-ltb, ltb-false}
use lib.Dec.{eqb, ltb}
use lib.ListN.{length}
use Rattle.rules.specs.Basics.{pick, All}
use Rattle.rules.specs.Strategy.{is_b}
use Rattle.rules.specs.Book.{Stage, queued, answer, is_held, is_live, is_queued, is_response, Entry, most_entries, same_side, better, with_stage, with_units, Found, nobody, found, find, any, count, only, added, without, reduced, put_by_price, by_price}
use Rattle.rules.specs.Messages.{Terms, Change, Body, local, national, order, response, modify, cancel, clock, reduce}
use Rattle.rules.specs.Refusals.{is_order, of_participant, order_row, modify_row}
use Rattle.rules.specs.State.{Pending, Auction, none, pending, State, is_pending, reached}
use Rattle.rules.specs.Auction.{eligible, queue, first_in, initiator, ends_by_order, joins, ends_by_legs}
use Rattle.rules.specs.Step.{Act, goes_on, begins, joining, ends, Intake, local_in, cancel_in, entry_of, modified_entry, modified, order_intake, take_in, watched}
use Rattle.rules.specs.Reached.{Ordered, FitStage, Inv, Initiator, order_id, is_cancel_of, is_ahead, ahead_of, foremost, next_initiator}
use Rattle.rules.proofs.TestLaws.{lt_of, not_le, eq_of, and_left, and_right, both_true, or_cases, or_right, or_no, not_true, pick_both, pick_if}
use Rattle.rules.proofs.BasicsLaws.{all_map, all_both, all_append}
use Rattle.rules.proofs.RowLaws.{NoneOf, none_of}
use Rattle.rules.proofs.EntryLaws.{not_queued, is_order_stage, held_order, live_order, queued_order, all-only, ordered_only, all-reduced, only_holds, any_no, nobody_not, found-same, find_id, find-all, find-only, all_under}
use Rattle.rules.proofs.SilentLaws.{self_side, one_side}
use Rattle.rules.proofs.IntakeLaws.{Admitted, Earlier, not_open, added-cases, joins_side, new_order, watched-pending}

-- ---- two limits of one side

-- p is better than q, or the same
abbrev NotWorse : Bool → ℕ → ℕ → Type 0
NotWorse b p q = (better b p q ≡ true) ⊎ (p ≡ q)

not_worse : (b : Bool) (p q : ℕ) → better b q p ≡ false → NotWorse b p q
not_worse true p q h =
    elim (dec_lt q p) [
      | yes l ↦ inl (lt-ltb q p l)
      | no n ↦ inr (omega (arith, ltb-false p q h))
    ]
not_worse false p q h =
    elim (dec_lt p q) [
      | yes l ↦ inl (lt-ltb p q l)
      | no n ↦ inr (omega (arith, ltb-false q p h))
    ]

not_better : (b : Bool) (p q : ℕ) → NotWorse b p q → better b q p ≡ false
not_better true p q (inl h) = le-ltb p q (omega (arith, lt_of q p h))
not_better true p q (inr h) = le-ltb p q (omega arith)
not_better false p q (inl h) = le-ltb q p (omega (arith, lt_of p q h))
not_better false p q (inr h) = le-ltb q p (omega arith)

better_trans : (b : Bool) (p q r : ℕ) → better b p q ≡ true → better b q r ≡ true → better b p r ≡ true
better_trans true p q r h k = lt-ltb r p (omega (arith, lt_of q p h, lt_of r q k))
better_trans false p q r h k = lt-ltb p r (omega (arith, lt_of p q h, lt_of q r k))

-- ---- one order ahead of another

ahead_cases : (o e : Entry) → is_ahead o e ≡ true → (better o.buy o.price e.price ≡ true) ⊎ ((o.price ≡ e.price) × (o.arrival < e.arrival))
ahead_cases o e h =
    elim (or_cases (better o.buy o.price e.price) (eqb o.price e.price && ltb o.arrival e.arrival) h) [
      | inl k ↦ inl k
      | inr k ↦ inr (eq_of o.price e.price (and_left (eqb o.price e.price) (ltb o.arrival e.arrival) k), lt_of o.arrival e.arrival (and_right (eqb o.price e.price) (ltb o.arrival e.arrival) k))
    ]

ahead_better : (o e : Entry) → better o.buy o.price e.price ≡ true → is_ahead o e ≡ true
ahead_better o e h = rw h

ahead_earlier : (o e : Entry) → o.price ≡ e.price → o.arrival < e.arrival → is_ahead o e ≡ true
ahead_earlier o e p a = or_right (better o.buy o.price e.price) (eqb o.price e.price && ltb o.arrival e.arrival) (rw (eq-eqb o.price e.price p, lt-ltb o.arrival e.arrival a))

ahead_not_worse : (o e : Entry) → is_ahead o e ≡ true → NotWorse o.buy o.price e.price
ahead_not_worse o e h =
    elim (ahead_cases o e h) [
      | inl k ↦ inl k
      | inr k ↦ inr k.0
    ]

ahead_trans : (d e f : Entry) → e.buy ≡ d.buy → is_ahead d e ≡ true → is_ahead e f ≡ true → is_ahead d f ≡ true
ahead_trans d e f s h k =
    elim (ahead_cases d e h) [
      | inl x ↦ (
          elim (ahead_cases e f k) [
            | inl y ↦ ahead_better d f (better_trans d.buy d.price e.price f.price x (subst (λ (b : Bool). better b e.price f.price ≡ true) s y))
            | inr y ↦ ahead_better d f (subst (λ (p : ℕ). better d.buy d.price p ≡ true) y.0 x)
          ]
          )
      | inr x ↦ (
          elim (ahead_cases e f k) [
            | inl y ↦ ahead_better d f (subst (λ (p : ℕ). better d.buy p f.price ≡ true) (sym x.0) (subst (λ (b : Bool). better b e.price f.price ≡ true) s y))
            | inr y ↦ ahead_earlier d f (x.0 ∙ y.0) (omega (arith, x.1, y.1))
          ]
          )
    ]

-- of two of one side one is ahead
ahead_other : (e o : Entry) → o.buy ≡ e.buy → e.arrival < o.arrival → is_ahead e o ≡ false → is_ahead o e ≡ true
ahead_other e o s a h =
    let n : (better e.buy e.price o.price ≡ false) × ((eqb e.price o.price && ltb e.arrival o.arrival) ≡ false) = or_no (better e.buy e.price o.price) (eqb e.price o.price && ltb e.arrival o.arrival) h in
    elim (not_worse e.buy o.price e.price n.0) [
      | inl k ↦ ahead_better o e (subst (λ (b : Bool). better b o.price e.price ≡ true) (sym s) k)
      | inr k ↦ absurd (both_true (eqb e.price o.price) (ltb e.arrival o.arrival) (eq-eqb e.price o.price (sym k)) (lt-ltb e.arrival o.arrival a) n.1)
    ]

-- ---- the first of the queue

all_put : (P : Entry → Type 0) (e : Entry) (es : List Entry) → P e → All P es → All P (put_by_price e es)
unfolding put_by_price
all_put P e [] p q = (p, tt)
all_put P e (f ∷ fs) p q = pick_both (λ (l : List Entry). All P l) (better f.buy f.price e.price) (q.0, all_put P e fs p q.1) (p, q)

all_sorted : (P : Entry → Type 0) (es : List Entry) → All P es → All P (by_price es)
unfolding by_price
all_sorted P [] p = tt
all_sorted P (e ∷ es) p = all_put P e (by_price es) p.0 (all_sorted P es p.1)

all-queue : (P : Entry → Type 0) (es : List Entry) → All (λ e. is_queued e.stage ≡ true → P e) es → All P (queue es)
all-queue P es p =
    let q : Entry → Bool = λ e. is_queued e.stage in
    let If : Entry → Type 0 = λ e. q e ≡ true → P e in
    all_sorted P (only q es) (all_map (λ e. If e × (q e ≡ true)) P (λ e r. r.0 r.1) (only q es) (all_both If (λ e. q e ≡ true) (only q es) (all-only If q es p) (only_holds q es)))

put_first : (o : Entry) (es : List Entry) → All (λ e. better e.buy e.price o.price ≡ false) es → first_in (put_by_price o es) ≡ found o
unfolding put_by_price
put_first o [] p = refl
put_first o (e ∷ es) p = rw p.0

put_behind : (e o : Entry) (es : List Entry) → better o.buy o.price e.price ≡ true → first_in es ≡ found o → first_in (put_by_price e es) ≡ found o
unfolding put_by_price
put_behind e o [] b h = absurd (nobody_not o h)
put_behind e o (f ∷ fs) b h = rw (ap (λ (g : Entry). better g.buy g.price e.price) (found-same f o h) ∙ b) h

-- where e is in the queue under another id than i, o is ahead of it
abbrev Behind : ℕ → Entry → Entry → Type 0
Behind i o e = is_queued e.stage ≡ true → (e.id ≡ i → ⊥) → is_ahead o e ≡ true

-- who is in the queue and ahead of the others there is the first of it
ahead_first : (i : ℕ) (es : List Entry) (o : Entry) → Ordered es → find i es ≡ found o → is_queued o.stage ≡ true → All (λ e. (is_queued e.stage ≡ true → e.buy ≡ o.buy) × Behind i o e) es → first_in (queue es) ≡ found o
unfolding find only by_price
ahead_first i [] o d h q a = absurd (nobody_not o h)
ahead_first i (e ∷ es) o d h q a =
    let Later : Entry → Type 0 = λ f. (f.id ≡ e.id → ⊥) × (e.arrival < f.arrival) in
    let Side : Entry → Type 0 = λ f. (is_queued f.stage ≡ true → f.buy ≡ o.buy) × Behind i o f in
    elim (ℕ_discrete e.id i) [
      | yes k ↦ (
          let same : e ≡ o = found-same e o (rw (eq-eqb e.id i k) at h) in
          let rest : All (λ f. better f.buy f.price o.price ≡ false) (queue es) =
          all-queue (λ f. better f.buy f.price o.price ≡ false) es
          (all_map (λ f. Later f × Side f) (λ f. is_queued f.stage ≡ true → better f.buy f.price o.price ≡ false)
          (λ f r z. rw (r.1.0 z) (not_better o.buy o.price f.price (ahead_not_worse o f (r.1.1 z (λ j. r.0.0 (j ∙ sym k)))))) es (all_both Later Side es d.0 a.1)) in
          rw (ap (λ (f : Entry). is_queued f.stage) same ∙ q) (subst (λ (f : Entry). first_in (put_by_price f (queue es)) ≡ found o) (sym same) (put_first o (queue es) rest))
          )
      | no n ↦ (
          let k : find i es ≡ found o = rw (ne_eqb e.id i n) at h in
          let rest : first_in (queue es) ≡ found o = ahead_first i es o d.1 k q a.1 in
          pick_if (λ (l : List Entry). first_in (by_price l) ≡ found o) (is_queued e.stage)
          (λ z. put_behind e o (queue es) (elim (ahead_cases o e (a.0.1 z n)) [
            | inl b ↦ b
            | inr b ↦ absurd (omega (arith, b.1, (find-all Later i es o k d.0).1))
          ]) rest)
          (λ z. rest)
          )
    ]

-- ---- the order of the queue ahead of the others

-- e is before those that follow it in a book
abbrev Later : Entry → Entry → Type 0
Later e f = (f.id ≡ e.id → ⊥) × (e.arrival < f.arrival)

-- who is in the queue is on that side
abbrev OnSide : Bool → Entry → Type 0
OnSide b e = is_queued e.stage ≡ true → e.buy ≡ b

-- it is in the book, in the queue, and ahead of the others there; nobody is found where the queue is empty
abbrev IsForemost : List Entry → Found → Type 0
IsForemost es nobody = any (λ e. is_queued e.stage) es ≡ false
IsForemost es (found o) = (find o.id es ≡ found o) × (is_queued o.stage ≡ true) × All (Behind o.id o) es

foremost_out : (e : Entry) (es : List Entry) (f : Found) → is_queued e.stage ≡ false → All (Later e) es → IsForemost es f → IsForemost (e ∷ es) f
unfolding find
foremost_out e es nobody z d h = rw z h
foremost_out e es (found o) z d h =
    let apart : o.id ≡ e.id → ⊥ = (find-all (Later e) o.id es o h.0 d).0 in
    (rw (ne_eqb e.id o.id (λ k. apart (sym k))) h.0, h.1, (λ y n. absurd (true≢false (sym y ∙ z)), h.2))

foremost_in : (b : Bool) (e : Entry) (es : List Entry) (f : Found) → is_queued e.stage ≡ true → e.buy ≡ b → All (OnSide b) es → All (Later e) es → Ordered es → IsForemost es f → IsForemost (e ∷ es) (ahead_of e f)
unfolding find
foremost_in b e es nobody z s a d r h =
    let q : Entry → Bool = λ g. is_queued g.stage in
    (rw (eq-eqb e.id e.id refl), z, (λ y n. absurd (n refl), all_map (λ g. q g ≡ false) (Behind e.id e) (λ g k y n. absurd (true≢false (sym y ∙ k))) es (any_no q es h)))
foremost_in b e es (found o) z s a d r h =
    let later : Later e o = find-all (Later e) o.id es o h.0 d in
    let side : o.buy ≡ e.buy = find-all (OnSide b) o.id es o h.0 a h.1 ∙ sym s in
    let Same : Entry → Type 0 = λ g. g.id ≡ o.id → g ≡ o in
    pick_if (λ (x : Found). IsForemost (e ∷ es) x) (is_ahead e o)
    (λ k. (
      rw (eq-eqb e.id e.id refl),
      z,
      (
        λ y n. absurd (n refl),
        all_map (λ g. Same g × Behind o.id o g) (Behind e.id e) (λ g p y n. elim (ℕ_discrete g.id o.id) [
          | yes j ↦ subst (λ (x : Entry). is_ahead e x ≡ true) (sym (p.0 j)) k
          | no j ↦ ahead_trans e o g side k (p.1 y j)
        ]) es (all_both Same (Behind o.id o) es (find-only o.id es o h.0 r) h.2),
      ),
    ))
    (λ k. (rw (ne_eqb e.id o.id (λ j. later.0 (sym j))) h.0, h.1, (λ y n. ahead_other e o side later.1 k, h.2)))

foremost_is : (b : Bool) (es : List Entry) → Ordered es → All (OnSide b) es → IsForemost es (foremost es)
unfolding foremost
foremost_is b [] d a = refl
foremost_is b (e ∷ es) d a =
    let rest : IsForemost es (foremost es) = foremost_is b es d.1 a.1 in
    pick_if (λ (f : Found). IsForemost (e ∷ es) f) (is_queued e.stage) (λ z. foremost_in b e es (foremost es) z (a.0 z) a.1 d.0 d.1 rest) (λ z. foremost_out e es (foremost es) z d.0 rest)

-- ---- the entry under an id, as others come and go

find_last : (i : ℕ) (es : List Entry) (o x : Entry) → find i es ≡ found o → find i (es ++ (x ∷ [])) ≡ found o
unfolding find
find_last i [] o x h = absurd (nobody_not o h)
find_last i (e ∷ es) o x h =
    elim (ℕ_discrete e.id i) [
      | yes k ↦ rw (eq-eqb e.id i k) (rw (eq-eqb e.id i k) at h)
      | no n ↦ rw (ne_eqb e.id i n) (find_last i es o x (rw (ne_eqb e.id i n) at h))
    ]

find_new : (i : ℕ) (es : List Entry) (x : Entry) → x.id ≡ i → All (λ e. i ≡ e.id → ⊥) es → find i (es ++ (x ∷ [])) ≡ found x
unfolding find
find_new i [] x k n = rw (eq-eqb x.id i k)
find_new i (e ∷ es) x k n = rw (ne_eqb e.id i (λ j. n.0 (sym j))) (find_new i es x k n.1)

find_kept : (g : Entry → Bool) (i : ℕ) (es : List Entry) (o : Entry) → g o ≡ true → find i es ≡ found o → find i (only g es) ≡ found o
unfolding find only
find_kept g i [] o k h = absurd (nobody_not o h)
find_kept g i (e ∷ es) o k h =
    elim (ℕ_discrete e.id i) [
      | yes s ↦ (
          let same : e ≡ o = found-same e o (rw (eq-eqb e.id i s) at h) in
          rw (ap g same ∙ k, eq-eqb e.id i s) (ap found same)
          )
      | no n ↦ (
          let rest : find i (only g es) ≡ found o = find_kept g i es o k (rw (ne_eqb e.id i n) at h) in
          pick_both (λ (l : List Entry). find i l ≡ found o) (g e) (rw (ne_eqb e.id i n) rest) rest
          )
    ]

-- what holds of an order and of the order reduced, holds of who is under its id then
find-reduced : (P : Entry → Type 0) (j i n : ℕ) (es : List Entry) (o : Entry) → find j es ≡ found o → P o → P (with_units n o) → (x : Entry) × (find j (reduced i n es) ≡ found x) × P x
unfolding find
find-reduced P j i n [] o h p q = absurd (nobody_not o h)
find-reduced P j i n (e ∷ es) o h p q =
    elim (ℕ_discrete e.id i) [
      | yes a ↦ (
          elim (ℕ_discrete e.id j) [
            | yes b ↦ (with_units n e, rw (eq-eqb e.id i a, eq-eqb e.id j b), subst (λ (x : Entry). P (with_units n x)) (sym (found-same e o (rw (eq-eqb e.id j b) at h))) q)
            | no b ↦ (o, rw (eq-eqb e.id i a, ne_eqb e.id j b) (rw (ne_eqb e.id j b) at h), p)
          ]
          )
      | no a ↦ (
          elim (ℕ_discrete e.id j) [
            | yes b ↦ (o, rw (ne_eqb e.id i a, eq-eqb e.id j b) (rw (eq-eqb e.id j b) at h), p)
            | no b ↦ (
                let r : (x : Entry) × (find j (reduced i n es) ≡ found x) × P x = find-reduced P j i n es o (rw (ne_eqb e.id j b) at h) p q in
                (r.0, rw (ne_eqb e.id i a, ne_eqb e.id j b) r.1, r.2)
                )
          ]
          )
    ]

-- ---- who is modified is not in the queue

-- where e is in the queue, it is not the one under id i
abbrev Other : ℕ → Entry → Type 0
Other i e = is_queued e.stage ≡ true → e.id ≡ i → ⊥

any-one : (f : Entry → Bool) (P : Entry → Type 0) (es : List Entry) → any f es ≡ true → All P es → (e : Entry) × (f e ≡ true) × P e
any-one f P [] h p = absurd (true≢false (sym h))
any-one f P (e ∷ es) h p =
    elim (or_cases (f e) (any f es) h) [
      | inl k ↦ (e, k, p.0)
      | inr k ↦ any-one f P es k p.1
    ]

-- the one of an id and participant is whoever has the id
any-under : (f : Entry → Bool) (i p : ℕ) (es : List Entry) → Ordered es → any (λ e. f e && of_participant i p e) es ≡ true → All (λ e. e.id ≡ i → (f e && of_participant i p e) ≡ true) es
any-under f i p es d h =
    let g : Entry → Bool = λ e. f e && of_participant i p e in
    all_under (λ e. g e ≡ true) i es d
    (λ o k. (
    let w : (e : Entry) × (g e ≡ true) × (e.id ≡ i → e ≡ o) = any-one g (λ e. e.id ≡ i → e ≡ o) es h (find-only i es o k d) in
    let e : Entry = w.0 in
    let same : e ≡ o = w.2 (eq_of e.id i (and_left (eqb e.id i) (eqb e.participant p) (and_right (f e) (of_participant i p e) w.1))) in
    subst (λ (x : Entry). g x ≡ true) same w.1
    ))

modify_other : (i p : ℕ) (es : List Entry) → Ordered es → any (λ e. is_response e.stage && of_participant i p e) es ≡ true → All (Other i) es
modify_other i p es d h =
    all_map (λ e. e.id ≡ i → (is_response e.stage && of_participant i p e) ≡ true) (Other i)
    (λ e r z k. true≢false (sym (queued_order e.stage z) ∙ ap not (and_left (is_response e.stage) (of_participant i p e) (r k)))) es (any-under (λ e. is_response e.stage) i p es d h)

-- ---- the order that begins an auction finds a place

orders_all : (es : List Entry) → All (FitStage none) es → count is_order es ≡ length es
orders_all [] f = refl
orders_all (e ∷ es) f = rw (stage e.stage f.0) (omega (arith, orders_all es f.1))
  where
    stage : (t : Stage) → (is_held t || is_live t) ≡ true → is_order_stage t ≡ true
    stage t h =
        elim (or_cases (is_held t) (is_live t) h) [
          | inl k ↦ held_order t k
          | inr k ↦ live_order t k
        ]

added_last : (es : List Entry) (x : Entry) → length es < most_entries → added es x ≡ es ++ (x ∷ [])
unfolding added
added_last es x h = rw (lt-ltb (length es) most_entries h)

-- ---- a message taken in

-- a queue with an order in it
abbrev pub HasQueue : List Entry → Type 0
HasQueue es = any (λ e. is_queued e.stage) es ≡ true

-- what a book keeps while an auction is pending, K, what it has after the cancel of the order under an id, C, and when the order under an id has begun one, N
pub record Keeps (s : State) (K : List Entry → Type 0) (C N : ℕ → List Entry → Type 0) : Type 0 where
  outside : (es : List Entry) (x : Entry) → is_queued x.stage ≡ false → K es → K (es ++ (x ∷ []))
  left : (i : ℕ) (es : List Entry) → All (Other i) es → K es → K (without i es)
  cancelled : (i : ℕ) → HasQueue (without i s.book) → K s.book → C i (without i s.book)
  reduced : (i n : ℕ) (es : List Entry) → K es → K (reduced i n es)
  joined : (p : Pending) (t : Terms) → s.auction ≡ pending p → is_b t.side ≡ p.buy → ends_by_order s p (new_order s t) ≡ false → K s.book → K (s.book ++ (with_stage queued (new_order s t) ∷ []))
  begun : (t : Terms) → All (λ e. is_queued e.stage ≡ false) s.book → All (λ e. t.id ≡ e.id → ⊥) s.book → N t.id (s.book ++ (with_stage queued (new_order s t) ∷ []))

-- the book after an intake, where an auction is pending then: L where it goes on, K where an order joins it, N where one begins it
abbrev pub Holds : (List Entry → Type 0) → (List Entry → Type 0) → (List Entry → Type 0) → Act → State → Type 0
Holds L K N goes_on s = is_pending s.auction ≡ true → L s.book
Holds L K N begins s = (is_pending s.auction ≡ true) × N s.book
Holds L K N joining s = (is_pending s.auction ≡ true) × K s.book
Holds L K N (ends c) s = Unit {0}

-- the book after a message of this kind
abbrev pub Left : (List Entry → Type 0) → (ℕ → List Entry → Type 0) → Body → List Entry → Type 0
Left K C (local q) = K
Left K C (national q) = K
Left K C (order t w) = K
Left K C (response t) = K
Left K C (modify c) = K
Left K C (cancel i p) = C i
Left K C clock = K
Left K C (reduce i p n) = K

-- who still waits where a cancel does not end the auction
some_left : (p q : Bool) → (p && not q) ≡ false → p ≡ true → q ≡ true
some_left p true h k = refl
some_left p false h k = absurd (both_true p true k refl h)

module _ (K : List Entry → Type 0) (C N : ℕ → List Entry → Type 0) (s : State) (k : Keeps s K C N) where
  added-keeps : (es : List Entry) (x : Entry) → is_queued x.stage ≡ false → K es → K (added es x)
  added-keeps es x n h = added-cases K es x h (k.outside es x n h)

  order-holds : (a : Auction) (t : Terms) (w : Bool) → s.auction ≡ a → Admitted s (order t w) → (is_pending a ≡ true → K s.book) → Holds K K (N t.id) (order_intake s a t w).act (order_intake s a t w).state
  unfolding order_intake
  order-holds none t w e a h =
      let o : Entry = with_stage queued (new_order s t) in
      let n : NoneOf (order_row s t) = none_of (order_row s t) refl a.passed in
      let f : All (FitStage none) s.book = subst (λ (x : Auction). All (FitStage x) s.book) e a.inv.stages in
      let place : length s.book < most_entries = omega (arith, not_le _ (count is_order s.book) n.1.1.0, orders_all s.book f) in
      let out : All (λ x. is_queued x.stage ≡ false) s.book = all_map (FitStage none) (λ x. is_queued x.stage ≡ false) (λ x q. not_queued x.stage q) s.book f in
      pick_both (λ (i : Intake). Holds K K (N t.id) i.act i.state) (w && eligible s (new_order s t)) (refl, rw (added_last s.book o place) (k.begun t out (not_open t.id s.book n.1.0)))
      (λ z. absurd (true≢false (sym z ∙ ap is_pending e)))
  order-holds (pending p) t w e a h =
      let o : Entry = new_order s t in
      pick_if (λ (i : Intake). Holds K K (N t.id) i.act i.state) (ends_by_order s p o) (λ q. tt)
      (λ q. pick_if (λ (i : Intake). Holds K K (N t.id) i.act i.state) (joins s p w o)
      (λ j. (ap is_pending e, added-cases K s.book (with_stage queued o) (h refl) (k.joined p t e (joins_side s p w o j) q (h refl)))) (λ j z. added-keeps s.book o refl (h refl)))

  modify-keeps : (c : Change) (f : Found) → All (Other c.id) s.book → K s.book → K (modified c (s.clock.next - 1) s.book f)
  modify-keeps c nobody d h = h
  modify-keeps c (found e) d h = added-keeps (without c.id s.book) (modified_entry c (s.clock.next - 1) e) refl (k.left c.id s.book d h)

  pub take-holds : (b : Body) → Admitted s b → (is_pending s.auction ≡ true → K s.book) → Holds (Left K C b) K (N (order_id b)) (take_in s b).act (take_in s b).state
  unfolding take_in
  take-holds (local q) a h = let r : State = local_in s q in pick_both (λ (x : Act). Holds K K (N 0) x r) (ends_by_legs r r.auction) tt h
  take-holds (national q) a h = h
  take-holds (order t w) a h = order-holds s.auction t w refl a h
  take-holds (response t) a h = λ z. added-keeps s.book (entry_of t (s.clock.next - 1) answer) refl (h z)
  take-holds (modify c) a h =
      let n : NoneOf (modify_row s c) = none_of (modify_row s c) refl a.passed in
      let some : any (λ e. is_response e.stage && of_participant c.id c.participant e) s.book ≡ true = not_true _ n.1.1.0 in
      λ z. modify-keeps c (find c.id s.book) (modify_other c.id c.participant s.book a.inv.order some) (h z)
  take-holds (cancel i p) a h =
      let r : State = cancel_in s i in
      let waits : Bool = any (λ e. is_queued e.stage) r.book in
      pick_if (λ (x : Act). Holds (C i) K (N 0) x r) (is_pending r.auction && not waits) (λ y. tt) (λ y z. k.cancelled i (some_left (is_pending r.auction) waits y z) (h z))
  take-holds clock a h = pick_both (λ (x : Act). Holds K K (N 0) x s) (reached s.auction s.clock.time) tt h
  take-holds (reduce i p n) a h = λ z. k.reduced i n s.book (h z)

-- the legs are read: neither the book nor whether an auction is pending changes
pub watched_holds : (L K N : List Entry → Type 0) (b : Body) (a : Act) (s : State) → Holds L K N a s → Holds L K N a (watched b s)
watched_holds L K N b goes_on s h = λ z. h (sym (watched-pending b s) ∙ z)
watched_holds L K N b begins s h = (watched-pending b s ∙ h.0, h.1)
watched_holds L K N b joining s h = (watched-pending b s ∙ h.0, h.1)
watched_holds L K N b (ends c) s h = tt

-- ---- a pending auction has a queue

any_last : (f : Entry → Bool) (es : List Entry) (x : Entry) → any f es ≡ true → any f (es ++ (x ∷ [])) ≡ true
any_last f [] x h = absurd (true≢false (sym h))
any_last f (e ∷ es) x h =
    elim (or_cases (f e) (any f es) h) [
      | inl k ↦ rw k
      | inr k ↦ or_right (f e) (any f (es ++ (x ∷ []))) (any_last f es x k)
    ]

any_new : (f : Entry → Bool) (es : List Entry) (x : Entry) → f x ≡ true → any f (es ++ (x ∷ [])) ≡ true
any_new f [] x h = rw h
any_new f (e ∷ es) x h = or_right (f e) (any f (es ++ (x ∷ []))) (any_new f es x h)

any_left : (f : Entry → Bool) (i : ℕ) (es : List Entry) → All (λ e. f e ≡ true → e.id ≡ i → ⊥) es → any f es ≡ true → any f (without i es) ≡ true
unfolding only
any_left f i [] d h = h
any_left f i (e ∷ es) d h =
    elim (or_cases (f e) (any f es) h) [
      | inl k ↦ rw (ne_eqb e.id i (d.0 k), k)
      | inr k ↦ (
          let rest : any f (without i es) ≡ true = any_left f i es d.1 k in
          pick_both (λ (l : List Entry). any f l ≡ true) (not (eqb e.id i)) (or_right (f e) (any f (without i es)) rest) rest
          )
    ]

any-reduced : (i n : ℕ) (es : List Entry) → HasQueue es → HasQueue (reduced i n es)
any-reduced i n [] h = h
any-reduced i n (e ∷ es) h =
    let q : Entry → Bool = λ x. is_queued x.stage in
    pick_both HasQueue (eqb e.id i) h
    (elim (or_cases (q e) (any q es) h) [
      | inl k ↦ rw k
      | inr k ↦ or_right (q e) (any q (reduced i n es)) (any-reduced i n es k)
    ])

pub queue_keeps : (s : State) → Keeps s HasQueue (λ i. HasQueue) (λ i. HasQueue)
queue_keeps s =
    let q : Entry → Bool = λ e. is_queued e.stage in
    record {
      outside = λ es x n h. any_last q es x h;
      left = λ i es d h. any_left q i es d h;
      cancelled = λ i r h. r;
      reduced = λ i n es h. any-reduced i n es h;
      joined = λ p t e d n h. any_last q s.book (with_stage queued (new_order s t)) h;
      begun = λ t n d. any_new q s.book (with_stage queued (new_order s t)) refl;
    }

-- ---- the initiator leads it

-- what Leads says of the book: the order under id i has arrival number n
pub record Front (i n : ℕ) (es : List Entry) : Type 0 where
  pub order : Entry
  pub there : find i es ≡ found order
  pub number : order.arrival ≡ n
  pub queued : is_queued order.stage ≡ true
  pub ahead : All (Behind i order) es

-- the queue is on one side
one_sided : (s : State) (o : Entry) → Inv s → is_queued o.stage ≡ true → FitStage s.auction o → All (OnSide o.buy) s.book
one_sided s o v q f = all_map (FitStage s.auction) (OnSide o.buy) (λ e g z. one_side s.auction o e q f g z) s.book v.stages

pub front_first : (i n : ℕ) (s : State) → Inv s → (f : Front i n s.book) → initiator s ≡ found f.order
front_first i n s v f =
    let o : Entry = f.order in
    let side : All (OnSide o.buy) s.book = one_sided s o v f.queued (find-all (FitStage s.auction) i s.book o f.there v.stages) in
    ahead_first i s.book o v.order f.there f.queued (all_both (OnSide o.buy) (Behind i o) s.book side f.ahead)

last_front : (i n : ℕ) (es : List Entry) (x : Entry) (f : Front i n es) → (is_queued x.stage ≡ true → is_ahead f.order x ≡ true) → Front i n (es ++ (x ∷ []))
last_front i n es x f h =
    record {
      order = f.order;
      there = find_last i es f.order x f.there;
      number = f.number;
      queued = f.queued;
      ahead = all_append (Behind i f.order) es (x ∷ []) f.ahead (λ z y. h z, tt);
    }

left_front : (i n j : ℕ) (es : List Entry) (f : Front i n es) → (f.order.id ≡ j → ⊥) → Front i n (without j es)
left_front i n j es f other =
    let g : Entry → Bool = λ e. not (eqb e.id j) in
    record {
      order = f.order;
      there = find_kept g i es f.order (ap not (ne_eqb f.order.id j other)) f.there;
      number = f.number;
      queued = f.queued;
      ahead = all-only (Behind i f.order) g es f.ahead;
    }

reduced_front : (i n j u : ℕ) (es : List Entry) → Front i n es → Front i n (reduced j u es)
reduced_front i n j u es f =
    let P : Entry → Type 0 = λ x. (x.arrival ≡ n) × (is_queued x.stage ≡ true) × All (Behind i x) (reduced j u es) in
    let o : Entry = f.order in
    let p : P o = (f.number, f.queued, all-reduced (Behind i o) j u (λ e q. q) es f.ahead) in
    let r : (x : Entry) × (find i (reduced j u es) ≡ found x) × P x = find-reduced P i j u es o f.there p p in
    record { order = r.0; there = r.1; number = r.2.0; queued = r.2.1; ahead = r.2.2 }

-- the order found leads
abbrev pub FrontOf : Initiator → List Entry → Type 0
FrontOf b es = Front b.id b.number es

foremost_front : (b : Initiator) (es : List Entry) (f : Found) → IsForemost es f → HasQueue es → FrontOf (next_initiator b f) es
foremost_front b es nobody h q = absurd (true≢false (sym q ∙ h))
foremost_front b es (found o) h q = record { order = o; there = h.0; number = refl; queued = h.1; ahead = h.2 }

-- the book after the cancel of the order under an id
abbrev pub CancelledFront : Initiator → ℕ → List Entry → Type 0
CancelledFront b i es = FrontOf (pick (eqb i b.id) (next_initiator b (foremost es)) b) es

-- M-105: "If the initiator is cancelled, the next queue order by price, then arrival, becomes the initiator"
cancelled_front : (b : Initiator) (s : State) (i : ℕ) → Inv s → HasQueue (without i s.book) → FrontOf b s.book → CancelledFront b i (without i s.book)
cancelled_front b s i v q f =
    let es : List Entry = without i s.book in
    let o : Entry = f.order in
    let out : Entry → Bool = λ e. not (eqb e.id i) in
    let side : All (OnSide o.buy) es = all-only (OnSide o.buy) out s.book (one_sided s o v f.queued (find-all (FitStage s.auction) b.id s.book o f.there v.stages)) in
    pick_if (λ (x : Initiator). FrontOf x es) (eqb i b.id) (λ k. foremost_front b es (foremost es) (foremost_is o.buy es (ordered_only out s.book v.order) side) q)
    (λ k. left_front b.id b.number i s.book f (λ j. true≢false (sym (eq-eqb i b.id (sym j ∙ find_id b.id s.book o f.there)) ∙ k)))

-- who joins has no better limit, and comes later
joined_behind : (i n : ℕ) (s : State) (p : Pending) (t : Terms) → Inv s → Earlier s → s.auction ≡ pending p → is_b t.side ≡ p.buy → ends_by_order s p (new_order s t) ≡ false → (f : Front i n s.book)
    → is_ahead f.order (new_order s t) ≡ true
unfolding ends_by_order
joined_behind i m s p t v l a d n f =
    let o : Entry = f.order in
    let x : Entry = new_order s t in
    let side : o.buy ≡ p.buy = find-all (FitStage (pending p)) i s.book o f.there (subst (λ (y : Auction). All (FitStage y) s.book) a v.stages) f.queued in
    let same : same_side p.buy x.buy ≡ true = ap (same_side p.buy) d ∙ self_side p.buy in
    let worse : better p.buy x.price o.price ≡ false = rw (same, front_first i m s v f) at n in
    elim (not_worse p.buy o.price x.price worse) [
      | inl k ↦ ahead_better o x (rw side k)
      | inr k ↦ ahead_earlier o x k (find-all (λ e. e.arrival < s.clock.next - 1) i s.book o f.there l)
    ]

-- who begins is alone in the queue
begun_front : (n : ℕ) (s : State) (t : Terms) → s.clock.next - 1 ≡ n → All (λ e. is_queued e.stage ≡ false) s.book → All (λ e. t.id ≡ e.id → ⊥) s.book
    → Front t.id n (s.book ++ (with_stage queued (new_order s t) ∷ []))
begun_front n s t k q d =
    let o : Entry = with_stage queued (new_order s t) in
    record {
      order = o;
      there = find_new t.id s.book o refl d;
      number = k;
      queued = refl;
      ahead = all_append (Behind t.id o) s.book (o ∷ []) (all_map (λ e. is_queued e.stage ≡ false) (Behind t.id o) (λ e r z. absurd (true≢false (sym z ∙ r))) s.book q) (λ z y. absurd (y refl), tt);
    }

-- the initiator after a message that goes on
abbrev pub passed : Body → Initiator → List Entry → Initiator
passed m b es = pick (is_cancel_of b.id m) (next_initiator b (foremost es)) b

pub left_led : (m : Body) (b : Initiator) (es : List Entry) → Left (FrontOf b) (CancelledFront b) m es → FrontOf (passed m b es) es
left_led (local q) b es f = f
left_led (national q) b es f = f
left_led (order t w) b es f = f
left_led (response t) b es f = f
left_led (modify c) b es f = f
left_led (cancel i p) b es f = f
left_led clock b es f = f
left_led (reduce i p n) b es f = f

pub front_keeps : (b : Initiator) (n : ℕ) (s : State) → Inv s → Earlier s → s.clock.next - 1 ≡ n → Keeps s (FrontOf b) (CancelledFront b) (λ i. Front i n)
front_keeps b n s v l k =
    let i : ℕ = b.id in
    let m : ℕ = b.number in
    record {
      outside = λ es x q f. last_front i m es x f (λ z. absurd (true≢false (sym z ∙ q)));
      left = λ j es d f. left_front i m j es f (find-all (Other j) i es f.order f.there d f.queued);
      cancelled = λ j q f. cancelled_front b s j v q f;
      reduced = λ j u es f. reduced_front i m j u es f;
      joined = λ p t a d q f. last_front i m s.book (with_stage queued (new_order s t)) f (λ z. joined_behind i m s p t v l a d q f);
      begun = λ t q d. begun_front n s t k q d;
    }
