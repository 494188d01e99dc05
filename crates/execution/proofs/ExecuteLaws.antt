-- The turn of the order at a place of the book is the rules' turn: its records, in the legs' pass too, and the state after it.
use mathlib.Core.Path.{◌≡◌, refl, ap, ap₂, sym, subst, ◌∙◌}
use mathlib.Core.Bool.{Bool, true, ◌&&◌}
use mathlib.Core.List.{List, [], ◌∷◌, ◌++◌, append-nil}
use Prim.Native.Nat.{ℕ, zero, suc, ◌+◌, ◌-◌, ◌≤◌, min}
use native.Mathlib.Omega.{arith}
use lib.Dec.{leb}
use lib.ListN.{length, get_or, set, take, drop, replicate}
use Rattle.rules.specs.Basics.{sum, zeros, Below}
use Rattle.rules.specs.Prices.{Derived, derived, lower}
use Rattle.rules.specs.Book.{Stage, Entry, is_live}
use Rattle.rules.specs.State.{Auction, none, pending, State, with_market, with_book, with_auction, contra_price, contra_prices}
use Rattle.rules.specs.Auction.{keeping, gone}
use Rattle.rules.specs.Turn.{L, T, Offer, sizes, turn, key_of, Fill}
use Rattle.rules.specs.LegPrices.{booked}
use Rattle.rules.specs.Execution.{Mode, from_queue, going_live, legs_pass, legs_lead, offers_of, split_offers, all_up_to, interest, inside, turn_of, stage_after, after_turn, keep, settled, kept_after, executed, execute_if}
use Rattle.rules.specs.Step.{records_of, prices_of}
use Rattle.rules.proofs.BasicsLaws.{sum_zeros}
use Rattle.rules.proofs.TestLaws.{pick_none}
use Rattle.rules.proofs.TurnLaws.{turn_below, turn-sum}
use Rattle.types.specs.View.{stage_of}
use Rattle.types.proofs.TableLaws.{from-length}
use Rattle.state.specs.Layout as L
use Rattle.state.specs.View.{entry_at, open_count, entries_of, legs_of, market_of, auction_of, state_of}
use Rattle.state.proofs.TableLaws.{from-same}
use Rattle.records.specs.Records.{record_in, Adds, AddsPriced}
use Rattle.legprices.specs.Books.{IsBooked}
use Rattle.quotes.specs.Uses.{most_derived}
use Rattle.execution.specs.Reach.{at_or_through}
use Rattle.execution.specs.Slots.{offers_in, legs_within}
use Rattle.execution.specs.Turned.{slot_records, Cleared, Turned, order_at, IsContra, TurnedAt, Gives}
use Rattle.execution.specs.declared.Order.{Order}
use Rattle.execution.specs.Plays.{Goes}
use Rattle.execution.proofs.SlotLaws.{cleared}
use Rattle.execution.proofs.FillLaws.{fills_first}

open_count_lem : (longs words : List ℕ) → length (entries_of longs words) ≡ open_count words
open_count_lem longs words = from-length (entry_at longs words) 0 (open_count words) ∙ (let z : open_count words - 0 ≡ open_count words = omega arith in z)

-- ---- what is open to the order at a place of the book

pub contra_is : (longs words : List ℕ) (k : ℕ) (d : Derived) (buy : Bool) → buy ≡ (entry_at longs words k).buy → d ≡ derived buy (legs_of words) (market_of words) → d.price ≤ most_derived → IsContra longs words k d
contra_is longs words k d buy b e h = (rw (← b) e, omega arith)

pub open_turned : (m : Mode) (longs words : List ℕ) (k price : ℕ) (o : Order) (ps us : List ℕ) (n : ℕ) (gave : List ℕ) (took : ℕ) (old : List ℕ) (at : ℕ) (new : List ℕ) (r : ℕ) → o ≡ order_at longs words k price
    → n ≡ open_count words + 2 → offers_in longs words price ps us n ≡ inside m (state_of longs words) (entry_at longs words k)
    → Turned o.number o.id o.units (offers_in longs words o.legs ps us n) (take n gave) took old at new r → TurnedAt m longs words k gave took old at new r
open_turned m longs words k price o ps us n gave took old at new r e q f t =
    let u : Turned (get_or longs L.next 0 - 1) (get_or words (L.ids + k) 0) (get_or words (L.units + k) 0) (offers_in longs words price ps us n) (take n gave) took old at new r =
    subst (λ (x : Order). Turned x.number x.id x.units (offers_in longs words x.legs ps us n) (take n gave) took old at new r) e t in
    subst (λ (x : ℕ). Turned (get_or longs L.next 0 - 1) (get_or words (L.ids + k) 0) (get_or words (L.units + k) 0) (inside m (state_of longs words) (entry_at longs words k)) (take x gave) took old at new r) q
    (subst (λ (es : List Offer). Turned (get_or longs L.next 0 - 1) (get_or words (L.ids + k) 0) (get_or words (L.units + k) 0) es (take n gave) took old at new r) f u)

-- ---- the legs' pass

-- the first offer alone has units
below_none : (ts ss : List ℕ) → Below ts (zeros ss) → ts ≡ zeros ss
below_none [] [] b = refl
below_none [] (s ∷ ss) b = absurd b
below_none (t ∷ ts) [] b = absurd b
below_none (t ∷ ts) (s ∷ ss) b = ap₂ (λ (x : ℕ) (l : List ℕ). x ∷ l) (omega (arith, b.0)) (below_none ts ss b.1)

turn_first_only : (U : ℕ) (e : Offer) (es : List Offer) → sizes es ≡ zeros (sizes es) → turn U (e ∷ es) ≡ min U e.units ∷ zeros (sizes es)
turn_first_only U e es z = go (turn U (e ∷ es)) (turn_below U (e ∷ es)) (turn-sum U (e ∷ es))
  where
    go : (ts : List ℕ) → Below ts (sizes (e ∷ es)) → sum ts ≡ min U (sum (sizes (e ∷ es))) → ts ≡ min U e.units ∷ zeros (sizes es)
    go [] b s = absurd b
    go (t ∷ ts) b s =
        let q : ts ≡ zeros (sizes es) = below_none ts (sizes es) (rw z at b.1) in
        let n : sum ts ≡ 0 = ap sum q ∙ sum_zeros (sizes es) in
        let m : sum (sizes es) ≡ 0 = ap sum z ∙ sum_zeros (sizes es) in
        ap₂ (λ (x : ℕ) (l : List ℕ). x ∷ l) (omega arith) q

module _ (k : ℕ) (o : Entry) where
  book-none : (es : List Entry) → sizes (all_up_to k (offers_of legs_pass o es)) ≡ zeros (sizes (all_up_to k (offers_of legs_pass o es)))
  book-none [] = refl
  book-none (e ∷ es) = ap₂ (λ (x : ℕ) (l : List ℕ). x ∷ l) (pick_none (leb (key_of o.buy e.price) k)) (book-none es)

  book-length : (m : Mode) (es : List Entry) → length (sizes (all_up_to k (offers_of m o es))) ≡ length es
  book-length m [] = refl
  book-length m (e ∷ es) = ap suc (book-length m es)

-- the order at place k, where d is its derived contra price, with no grants yet
module _ (longs words : List ℕ) (k : ℕ) (d : Derived) (D : d ≡ contra_price (state_of longs words) (entry_at longs words k).buy) (gave : List ℕ) (c : Cleared gave) where
  abbrev order : Entry
  order = entry_at longs words k

  abbrev last : ℕ
  last = key_of order.buy order.price

  abbrev first : Offer
  first = legs_within longs words k d.price L d.units

  -- none of the legs in rank T, nor of the book
  abbrev others : List Offer
  others = legs_within longs words k d.price T (d.units - d.units) ∷ all_up_to last (offers_of legs_pass order (entries_of longs words))

  inside_is : inside legs_pass (state_of longs words) order ≡ first ∷ others
  unfolding interest
  inside_is = ap (λ (x : Derived). all_up_to last (split_offers (legs_lead legs_pass (auction_of longs words) order.buy) order.buy (x ∷ []) ++ offers_of legs_pass order (entries_of longs words))) (sym D)

  others-none : sizes others ≡ zeros (sizes others)
  others-none =
      let z : d.units - d.units ≡ 0 = omega arith in
      ap₂ (λ (x : ℕ) (l : List ℕ). x ∷ l) (rw z (pick_none (leb (key_of order.buy d.price) last))) (book-none last order (entries_of longs words))

  given_is : (g : ℕ) → take (open_count words + 2) (set gave 0 g) ≡ g ∷ zeros (sizes others)
  given_is g = go gave c
    where
      go : (l : List ℕ) → Cleared l → take (open_count words + 2) (set l 0 g) ≡ g ∷ zeros (sizes others)
      go [] c = absurd (omega (arith, c.0))
      go (x ∷ l) c =
          let z : open_count words + 2 ≡ suc (open_count words + 1) = omega arith in
          let n : length (sizes others) ≡ open_count words + 1 = omega (arith, book-length last order legs_pass (entries_of longs words), open_count_lem longs words) in
          rw z (ap (λ (t : List ℕ). g ∷ t) (cleared (open_count words + 1) l (sizes others) n (omega (arith, c.0)) (λ s. c.1 (suc s))))

  pub legs-turned : (g : ℕ) (old : List ℕ) (at : ℕ) (new : List ℕ) (r : ℕ) → g ≡ min order.units first.units
      → Adds old at new r (slot_records ((state_of longs words).clock.next - 1) order.id d.price words 0 0 g) → TurnedAt legs_pass longs words k (set gave 0 g) g old at new r
  legs-turned g old at new r e a =
      let t : turn order.units (first ∷ others) ≡ g ∷ zeros (sizes others) = turn_first_only order.units first others others-none ∙ ap (λ (x : ℕ). x ∷ zeros (sizes others)) (sym e) in
      rw inside_is
      (record {
        given = given_is g ∙ sym t;
        taken = omega (arith, ap sum t, sum_zeros (sizes others));
        records = rw (t, fills_first ((state_of longs words).clock.next - 1) order.id first others g) a;
      })

-- ---- the state after a turn

-- the grants in use, and the first two of them
first-grants : (n : ℕ) (l : List ℕ) → 2 ≤ length l
    → (sum (take 2 (take (n + 2) l)) ≡ get_or l 0 0 + get_or l 1 0) × (drop 2 (take (n + 2) l) ≡ take n (drop 2 l)) × (get_or (take (n + 2) l) 0 0 ≡ get_or l 0 0) × (get_or l 0 0 + get_or l 1 0 ≤ sum (take (n + 2) l))
first-grants n [] h = absurd (omega arith)
first-grants n (x ∷ []) h = absurd (omega arith)
first-grants n (x ∷ y ∷ l) h = let z : n + 2 ≡ suc (suc n) = omega arith in rw z (omega arith, refl, refl, omega arith)

-- the first of them is what is taken from what is kept
kept_by-first : (m : Mode) (a : Auction) (d : Derived) (gs hs : List ℕ) → get_or gs 0 0 ≡ get_or hs 0 0 → kept_after m a (d ∷ []) gs ≡ kept_after m a (d ∷ []) hs
kept_by-first from_queue none d gs hs e = refl
kept_by-first from_queue (pending p) d gs hs e = ap (λ (x : ℕ). pending (keeping (gone d.price x p.start) p)) e
kept_by-first going_live a d gs hs e = refl
kept_by-first legs_pass a d gs hs e = refl

-- as many grants as entries are read
settled-take : (i n : ℕ) (t : Stage) (es : List Entry) (gs : List ℕ) (m : ℕ) → length es ≤ m → settled i n t es (take m gs) ≡ settled i n t es gs
unfolding settled
settled-take i n t [] gs m h = refl
settled-take i n t (e ∷ es) gs zero h = absurd (omega arith)
settled-take i n t (e ∷ es) [] (suc m) h = refl
settled-take i n t (e ∷ es) (g ∷ gs) (suc m) h = ap (λ (l : List Entry). keep (after_turn i n t e g) l) (settled-take i n t es gs m (omega arith))

module _ (m : Mode) (longs words : List ℕ) (k : ℕ) (d : Derived) (gave : List ℕ) (took : ℕ) (D : IsContra longs words k d) (h : length gave ≡ 66) (G : Gives m longs words k gave took) where
  -- the legs give no more than the order takes
  pub legs-most : get_or gave 0 0 + get_or gave 1 0 ≤ took
  legs-most = omega (arith, (first-grants (open_count words) gave (omega arith)).3, ap sum G.0, G.1)

  executed-is : executed m (state_of longs words) (turn_of m (state_of longs words) (entry_at longs words k))
      ≡ (let s = state_of longs words in
      let o = entry_at longs words k in
      with_auction (with_book (with_market s (lower o.buy (get_or gave 0 0 + get_or gave 1 0) s.strategy.legs s.market)) (settled o.id took (stage_after m) s.book (drop 2 gave)))
      (kept_after m s.auction (d ∷ []) (get_or gave 0 0 ∷ [])))
  unfolding executed turn_of
  executed-is =
      let s = state_of longs words in
      let o = entry_at longs words k in
      let n : ℕ = open_count words in
      let f = first-grants n gave (omega arith) in
      ap (λ (gs : List ℕ). with_auction (with_book (with_market s (lower o.buy (sum (take 2 gs)) s.strategy.legs s.market)) (settled o.id (sum (turn o.units (inside m s o))) (stage_after m) s.book (drop 2 gs)))
      (kept_after m s.auction (contra_prices s o.buy) gs)) (sym G.0)
      ∙ rw (
        ← G.1,
        f.0,
        f.1,
        settled-take o.id took (stage_after m) (entries_of longs words) (drop 2 gave) n (omega (arith, open_count_lem longs words)),
        ← D.0,
        kept_by-first m s.auction d (take (n + 2) gave) (get_or gave 0 0 ∷ []) f.2,
      )

  -- what is kept, then settled, then the legs lowered
  pub applied-is : (buy : Bool) (stage : ℕ) (v b l w : List ℕ) → buy ≡ (entry_at longs words k).buy → stage_of stage ≡ stage_after m
      → state_of longs v ≡ with_auction (state_of longs words) (kept_after m (state_of longs words).auction (d ∷ []) (get_or gave 0 0 ∷ []))
      → state_of b l ≡ with_book (state_of longs v) (settled (entry_at longs words k).id took (stage_of stage) (state_of longs v).book (drop 2 gave))
      → state_of b w ≡ with_market (state_of b l) (lower buy (get_or gave 0 0 + get_or gave 1 0) (state_of b l).strategy.legs (state_of b l).market)
      → state_of b w ≡ executed m (state_of longs words) (turn_of m (state_of longs words) (entry_at longs words k))
  applied-is buy stage v b l w B S e f g =
      g
      ∙ ap (λ (x : State). with_market x (lower buy (get_or gave 0 0 + get_or gave 1 0) x.strategy.legs x.market))
      (f ∙ ap (λ (x : State). with_book x (settled (entry_at longs words k).id took (stage_of stage) x.book (drop 2 gave))) e)
      ∙ rw (B, S) (sym executed-is)

-- ---- both

-- an array of zeros
pub none_at : (n s : ℕ) → get_or {A = ℕ} (replicate n 0) s 0 ≡ 0
none_at zero s = refl
none_at (suc n) zero = refl
none_at (suc n) (suc s) = none_at n s

pub gives : (m : Mode) (l w : List ℕ) (k : ℕ) (gave : List ℕ) (took : ℕ) (old : List ℕ) (at : ℕ) (new : List ℕ) (r : ℕ) → TurnedAt m l w k gave took old at new r → Gives m l w k gave took
unfolding turn_of
gives m l w k gave took old at new r t = (t.given, t.taken)

-- its records with their leg prices, once these are given
booked_adds : (w f g h : List ℕ) (at r : ℕ) (buy : Bool) (fs : List Fill) → Adds f at g r fs → IsBooked w g at r buy h → AddsPriced f at h r fs (booked buy (legs_of w) (market_of w) fs)
booked_adds w f g h at r buy fs a b = record {
  records = record {
    sized = b.sized ∙ a.sized;
    more = a.more;
    inside = a.inside;
    before = λ i q. b.before i q ∙ a.before i q;
    behind = λ i q. b.behind i q ∙ a.behind i q;
    made = λ q. ((a.made q).0, from-same (record_in h) (record_in g) at r (λ j u v. b.records j) ∙ (a.made q).1);
  };
  prices = λ q.
      let e : r ≡ at + length fs = (a.made q).0 in
      let s : length g ≡ length f = a.sized in
      b.prices (omega arith) ∙ ap (booked buy (legs_of w) (market_of w)) (a.made q).1;
}

-- its records and the state after it
pub executed_goes : (m : Mode) (l w f : List ℕ) (at k : ℕ) (l' w' g h : List ℕ) (r : ℕ) (gave : List ℕ) (took : ℕ) (buy : Bool) → TurnedAt m l w k gave took f at g r → buy ≡ (entry_at l w k).buy → IsBooked w g at r buy h
    → state_of l' w' ≡ executed m (state_of l w) (turn_of m (state_of l w) (entry_at l w k)) → Goes l w f at l' w' h r (λ s. execute_if true m s (entry_at l w k))
unfolding turn_of records_of prices_of
executed_goes m l w f at k l' w' g h r gave took buy t u b e =
    let b' : IsBooked w g at r (entry_at l w k).buy h = subst (λ (x : Bool). IsBooked w g at r x h) u b in
    record { state = e; records = rw (append-nil (turn_of m (state_of l w) (entry_at l w k)).records, append-nil (turn_of m (state_of l w) (entry_at l w k)).prices) (booked_adds w f g h at r (entry_at l w k).buy _ t.records b') }

-- ---- readiness

-- a live order at or through its derived contra price
pub reaches : (s : Stage) (b c : Bool) (d e : Derived) (p : ℕ) (x y : Bool) → b ≡ c → d ≡ e → x ≡ is_live s → y ≡ at_or_through b p d → (x && y) ≡ (is_live s && at_or_through c p e)
reaches s b c d e p x y j k f g = rw (f, g, j, k) refl
