-- How a message is taken in, each kind case by case; the auction in the slices of a state, and the legs read once more.
use mathlib.Core.Path.{◌≡◌, refl, ap, sym, ◌∙◌}
use mathlib.Core.Bool.{Bool, true, false, ◌&&◌, true≢false}
use mathlib.Core.List.{List, [], ◌∷◌}
use Prim.Native.Nat.{ℕ, zero, suc, ◌-◌, ◌≤◌, min}
use native.Mathlib.Omega.{arith}
use borrow.Author.Tests.{ltb-false, ne_eqb}
use lib.Dec.{ltb}
use lib.ListN.{get_or, set}
use lib.Seq.{get_or-set_same, get_or-set_other}
use Rattle.rules.specs.Basics.{pick}
use Rattle.rules.specs.Outcome.{by_time, by_order, by_legs}
use Rattle.rules.specs.Prices.{Derived, exists}
use Rattle.rules.specs.Book.{Entry, nobody, found, find, same_side, held, queued, with_stage, without}
use Rattle.rules.specs.State.{Pending, Auction, none, pending, State, with_book, with_auction, is_pending, reached, contra_prices}
use Rattle.rules.specs.Auction.{eligible, auction_of as beginning, existing, ends_by_order, joins, ends_by_legs, units_at, seen, looked}
use Rattle.rules.specs.Messages.{Local, Terms, Change, local, order, modify, clock}
use Rattle.rules.specs.Step.{goes_on, begins, joining, ends, Intake, intake, entry_of, modified_entry, with_new, local_in, order_intake, take_in}
use Rattle.types.specs.declared.Cause.TheVariants as Cause
use Rattle.types.specs.View.{upto, from}
use Rattle.types.proofs.TableLaws.{from_cons, from_end}
use Rattle.state.specs.Layout as L
use Rattle.state.specs.Layout.{Sized}
use Rattle.state.specs.View.{flag, start_at, start_count, pending_of, auction_of, state_of}
use Rattle.state.specs.Stores.{store, stores}
use Rattle.state.proofs.TableLaws.{from-same}
use Rattle.state.proofs.StoreLaws.{Rising, rising_read, rising_kept, kept_all, kept_set}
use Rattle.state.proofs.StateLaws.{auction-alone, pending-flag}
use Rattle.intake.specs.declared.Act.{Act}
use Rattle.intake.specs.Acts.{act_of, outside, during, Takes}

and_both : (a b c : Bool) → (a && (b && c)) ≡ (a && b && c)
and_both true b c = refl
and_both false b c = refl

pub joins_is : (s : State) (p : Pending) (wish : Bool) (o : Entry) → (same_side p.buy o.buy && (wish && eligible s o)) ≡ joins s p wish o
unfolding joins
joins_is s p wish o = and_both (same_side p.buy o.buy) wish (eligible s o)

-- ---- the auction in its slices

-- where b says whether one is
module _ (longs words : List ℕ) (b : Bool) (e : b ≡ is_pending (auction_of longs words)) where
  flag_is : (x : Bool) → b ≡ x → auction_of longs words ≡ pick x (pending (pending_of longs words)) none
  flag_is x h = ap (λ (y : Bool). pick y (pending (pending_of longs words)) none) (pending-flag longs words ∙ sym e ∙ h)

  pub pending-in : b ≡ true → auction_of longs words ≡ pending (pending_of longs words)
  pending-in h = flag_is true h

  pub none_in : b ≡ false → auction_of longs words ≡ none
  none_in h = flag_is false h

-- the side of an auction
abbrev side_of : Auction → Bool
side_of none = false
side_of (pending p) = p.buy

pub pending_side : (longs words : List ℕ) (p : Pending) → auction_of longs words ≡ pending p → flag (get_or words L.buy 0) ≡ p.buy
pending_side longs words p e = go (flag (get_or words L.pending 0)) e
  where
    go : (b : Bool) → pick b (pending (pending_of longs words)) none ≡ pending p → flag (get_or words L.buy 0) ≡ p.buy
    go true q = ap side_of q
    go false q = absurd (true≢false (sym (ap is_pending q)))

-- what is kept of the legs where n says whether they have a price: that price, or nothing
pub start_is : (n : ℕ) (d : Derived) → flag n ≡ exists d → from (λ k. d) 0 (min n 1) ≡ existing (d ∷ [])
start_is zero d e = from_end (λ k. d) 0 (min 0 1) (omega arith) ∙ rw (← e) refl
start_is (suc n) d e =
    let one : min (suc n) 1 ≡ 1 = omega arith in
    rw (one, ← e, ne_eqb (suc n) 0 (λ (z : suc n ≡ 0). omega arith)) (from_cons (λ k. d) 0 1 (omega arith) ∙ ap (λ (ds : List Derived). d ∷ ds) (from_end (λ k. d) 1 1 (omega arith)))

-- an auction stored, with n as the count of what is kept
pub begun : (longs words : List ℕ) (t p n b u : ℕ) → Sized longs words
    → state_of (stores longs (store L.deadline t ∷ store L.start_prices p ∷ store L.start_count n ∷ [])) (stores words (store L.pending 1 ∷ store L.buy b ∷ store L.start_units u ∷ []))
    ≡ with_auction (state_of longs words) (pending (record { buy = flag b; deadline = t; start = from (λ k. record { price = p; units = u }) 0 (min n 1) }))
begun longs words t p n b u z =
    let ls = store L.deadline t ∷ store L.start_prices p ∷ store L.start_count n ∷ [] in
    let ws = store L.pending 1 ∷ store L.buy b ∷ store L.start_units u ∷ [] in
    let lr : Rising L.deadline L.first_number ls = (omega arith, omega arith, (omega arith, omega arith, (omega arith, omega arith, tt))) in
    let wr : Rising L.pending L.symbols ws = (omega arith, omega arith, (omega arith, omega arith, (omega arith, omega arith, tt))) in
    let lg = rising_read longs L.deadline L.first_number ls (omega (arith, z.0)) lr in
    let wg = rising_read words L.pending L.symbols ws (omega (arith, z.1)) wr in
    auction-alone longs (stores longs ls) words (stores words ws) (rising_kept longs L.deadline L.first_number ls lr) (rising_kept words L.pending L.symbols ws wr)
    ∙ ap (with_auction (state_of longs words)) (λ i.
    pick (flag (wg.0 i))
    (pending (record {
      buy = flag (wg.1.0 i);
      deadline = lg.0 i;
      start = (ap (λ (x : ℕ). from (start_at (stores longs ls) (stores words ws)) 0 (min x 1)) lg.1.1.0
          ∙ from-same (start_at (stores longs ls) (stores words ws)) (λ k. record { price = p; units = u }) 0 (min n 1) (λ k a c.
          let e : k ≡ 0 = omega arith in
          rw e (λ j. record { price = lg.1.0 j; units = wg.1.1.0 j }))) i;
    }))
    none)

-- ---- one more look at the legs

abbrev looked_at : State → State
looked_at s = with_auction s (looked s.auction (contra_prices s))

-- slices before and after a look, where the flag and the side stay and the units become the least that were shown
module _ (longs words after : List ℕ) (now : Bool → List Derived) where
  abbrev shows : List Derived
  shows = now (flag (get_or words L.buy 0))

  abbrev IsLeast : Type 0
  IsLeast = get_or after L.start_units 0 ≡ min (get_or words L.start_units 0) (units_at (get_or longs L.start_prices 0) shows)

  starts-seen : (n : ℕ) → n ≤ 1 → IsLeast → from (start_at longs after) 0 n ≡ seen (from (start_at longs words) 0 n) shows
  unfolding upto
  starts-seen zero h e = refl
  starts-seen (suc zero) h e = λ i. record { price = get_or longs L.start_prices 0; units = e i } ∷ []
  starts-seen (suc (suc n)) h e = absurd (omega arith)

  looked-is : get_or after L.pending 0 ≡ get_or words L.pending 0 → get_or after L.buy 0 ≡ get_or words L.buy 0 → (flag (get_or words L.pending 0) ≡ true → IsLeast) → auction_of longs after ≡ looked (auction_of longs words) now
  looked-is p b e = ap (λ (x : ℕ). pick (flag x) (pending (pending_of longs after)) none) p ∙ go (flag (get_or words L.pending 0)) e
    where
      go : (x : Bool) → (x ≡ true → IsLeast) → pick x (pending (pending_of longs after)) none ≡ looked (pick x (pending (pending_of longs words)) none) now
      go true f = λ i. pending (record { buy = flag (b i); deadline = get_or longs L.deadline 0; start = starts-seen (start_count longs) (omega arith) (f refl) i })
      go false f = refl

-- the least units stored
pub least_kept : (longs words : List ℕ) (u : ℕ) → Sized longs words
    → u ≡ min (get_or words L.start_units 0) (units_at (get_or longs L.start_prices 0) (contra_prices (state_of longs words) (flag (get_or words L.buy 0)))) → state_of longs (set words L.start_units u) ≡ looked_at (state_of longs words)
least_kept longs words u z e =
    let after = set words L.start_units u in
    auction-alone longs longs words after (kept_all L.deadline L.first_number longs) (kept_set L.pending L.symbols words words L.start_units u (omega arith) (omega arith) (kept_all L.pending L.symbols words))
    ∙ ap (with_auction (state_of longs words))
    (looked-is longs words after (contra_prices (state_of longs words)) (get_or-set_other words L.start_units L.pending u 0 (λ (x : L.pending ≡ L.start_units). omega arith))
    (get_or-set_other words L.start_units L.buy u 0 (λ (x : L.buy ≡ L.start_units). omega arith)) (λ h. get_or-set_same words L.start_units u 0 (omega (arith, z.1)) ∙ e))

-- no auction is pending, or its price has shown 0 units before: where b says whether one is
pub nothing_seen : (longs words : List ℕ) (b : Bool) → b ≡ is_pending (auction_of longs words) → (b && ltb 0 (get_or words L.start_units 0)) ≡ false → state_of longs words ≡ looked_at (state_of longs words)
nothing_seen longs words b e h =
    let s = state_of longs words in
    ap (with_auction s) (looked-is longs words words (contra_prices s) refl refl (λ p.
    let none : get_or words L.start_units 0 ≤ 0 = ltb-false 0 (get_or words L.start_units 0) (rw (e ∙ sym (pending-flag longs words) ∙ p) at h) in
    omega arith))

-- ---- what is taken in

-- a state and an act
taking : (s t : State) (r : Act) (f : State → Intake) → intake t (act_of r) ≡ f s → Takes s t r f
taking s t r f e = record { state = ap (λ (i : Intake). i.state) e; act = ap (λ (i : Intake). i.act) e }

-- the same intake under another name
pub takes_as : {s t : State} {r : Act} {f : State → Intake} (g : State → Intake) → f s ≡ g s → Takes s t r f → Takes s t r g
takes_as g e x = record { state = x.state ∙ ap (λ (i : Intake). i.state) e; act = x.act ∙ ap (λ (i : Intake). i.act) e }

module _ (s t : State) where
  -- an order with no auction pending, where x says whether it is eligible
  module _ (wish x : Bool) (o : Entry) (e : x ≡ (wish && eligible s o)) where
    pub outside-begins : x ≡ true → t ≡ with_auction (with_new s (with_stage queued o)) (beginning s o s.clock.time) → Takes s t Act.Begins (λ u. outside u wish o)
    outside-begins h q = taking s t Act.Begins (λ u. outside u wish o) (rw (← e, h) (ap (λ (u : State). intake u begins) q))

    pub outside-held : x ≡ false → t ≡ with_new s o → Takes s t Act.GoesOn (λ u. outside u wish o)
    outside-held h q = taking s t Act.GoesOn (λ u. outside u wish o) (rw (← e, h) (ap (λ (u : State). intake u goes_on) q))

  -- an order during an auction, where x says whether it ends it, and y whether it joins
  module _ (p : Pending) (wish x : Bool) (o : Entry) (e : x ≡ ends_by_order s p o) where
    pub during-ends : x ≡ true → t ≡ with_new s o → Takes s t (Act.Ends Cause.Order) (λ u. during u p wish o)
    during-ends h q = taking s t (Act.Ends Cause.Order) (λ u. during u p wish o) (rw (← e, h) (ap (λ (u : State). intake u (ends by_order)) q))

    module _ (h : x ≡ false) (y : Bool) (f : y ≡ joins s p wish o) where
      pub during-joins : y ≡ true → t ≡ with_new s (with_stage queued o) → Takes s t Act.Joins (λ u. during u p wish o)
      during-joins g q = taking s t Act.Joins (λ u. during u p wish o) (rw (← e, h, ← f, g) (ap (λ (u : State). intake u joining) q))

      pub during-held : y ≡ false → t ≡ with_new s o → Takes s t Act.GoesOn (λ u. during u p wish o)
      during-held g q = taking s t Act.GoesOn (λ u. during u p wish o) (rw (← e, h, ← f, g) (ap (λ (u : State). intake u goes_on) q))

  -- a local quote, where x says whether it ends the auction
  pub local-is : (q : Local) (x : Bool) (r : Act) → t ≡ local_in s q → x ≡ ends_by_legs t t.auction → act_of r ≡ pick x (ends by_legs) goes_on → Takes s t r (λ u. take_in u (local q))
  unfolding take_in
  local-is q x r e f a =
      taking s t r (λ u. take_in u (local q)) (ap (intake t) (a ∙ ap (λ (b : Bool). pick b (ends by_legs) goes_on) f) ∙ ap (λ (u : State). intake u (pick (ends_by_legs u u.auction) (ends by_legs) goes_on)) e)

  -- a modification
  module _ (c : Change) where
    pub modify-found : (e o : Entry) → find c.id s.book ≡ found e → t ≡ with_new (with_book s (without c.id s.book)) o → o ≡ modified_entry c (s.clock.next - 1) e → Takes s t Act.GoesOn (λ u. take_in u (modify c))
    unfolding take_in
    modify-found e o f q z =
        taking s t Act.GoesOn (λ u. take_in u (modify c)) (rw f (ap (λ (u : State). intake u goes_on) (q ∙ ap (with_new (with_book s (without c.id s.book))) z)))

    pub modify-none : find c.id s.book ≡ nobody → t ≡ s → Takes s t Act.GoesOn (λ u. take_in u (modify c))
    unfolding take_in
    modify-none f q = taking s t Act.GoesOn (λ u. take_in u (modify c)) (rw f (ap (λ (u : State). intake u goes_on) q))

-- an order, by the auction
module _ (s : State) (t : Terms) (wish : Bool) where
  pub order-none : s.auction ≡ none → outside s wish (entry_of t (s.clock.next - 1) held) ≡ take_in s (order t wish)
  unfolding take_in order_intake
  order-none e = sym (ap (λ (a : Auction). order_intake s a t wish) e)

  pub order-pending : (p : Pending) → s.auction ≡ pending p → during s p wish (entry_of t (s.clock.next - 1) held) ≡ take_in s (order t wish)
  unfolding take_in order_intake
  order-pending p e = sym (ap (λ (a : Auction). order_intake s a t wish) e)

-- a clock, where x says whether the deadline is reached
pub clock_is : (s : State) (x : Bool) (time : ℕ) (r : Act) → time ≡ s.clock.time → x ≡ reached s.auction time → act_of r ≡ pick x (ends by_time) goes_on → Takes s s r (λ u. take_in u clock)
unfolding take_in
clock_is s x time r z f a = taking s s r (λ u. take_in u clock) (ap (intake s) (a ∙ ap (λ (b : Bool). pick b (ends by_time) goes_on) (f ∙ ap (reached s.auction) z)))
