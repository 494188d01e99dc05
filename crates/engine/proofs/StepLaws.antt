-- What the table lets pass, and the clock, the auction and the places in the lent slices.
use mathlib.Core.Path.{◌≡◌, refl, ◌∙◌}
use mathlib.Core.Bool.{Bool, true, false}
use mathlib.Core.List.{List, [], ◌∷◌, ◌++◌}
use Prim.Native.Nat.{ℕ, ◌+◌, ◌*◌, ◌≤◌, ◌<◌, min}
use native.Mathlib.Omega.{arith}
use borrow.Author.Tests.{ltb-false}
use lib.Dec.{ltb}
use lib.ListN.{length, get_or, set, length-set}
use lib.Seq.{get_or-set_same, get_or-set_other}
use Rattle.rules.specs.Basics.{pick, Rule, first_of}
use Rattle.rules.specs.Strategy.{most_number, most_time}
use Rattle.rules.specs.State.{State, none, pending, state_from, taken}
use Rattle.rules.specs.Messages.{Message}
use Rattle.rules.specs.Refusals.{least_room, every_row, kind_row, refusal}
use Rattle.rules.specs.Step.{deadline_of}
use Rattle.rules.proofs.TestLaws.{lt_of, and_left, and_right, or_no}
use Rattle.rules.proofs.RowLaws.{is_numbered, NoneOf, none_of}
use Rattle.state.specs.Layout as L
use Rattle.state.specs.Layout.{LongsSized}
use Rattle.state.specs.View.{flag, pending_of, auction_of, strategy_of, market_of, entries_of, state_of}
use Rattle.state.proofs.StoreLaws.{kept_all, kept_set}
use Rattle.state.proofs.StateLaws.{clock_alone, sized_is}
use Rattle.records.specs.Records.{width}
use Rattle.engine.specs.Steps.{places_in}

-- ---- a message that is turned back, or let pass

-- a list without a place
pub no_places : (s : State) (m : Message) → refusal s m 0 ≡ 10
unfolding refusal
no_places s m = refl

-- the places of a list with room for 2,000 records
pub all-places : (longs words list : List ℕ) → L.Sized longs words → least_room * width ≤ length list → places_in longs words list least_room ≡ least_room
all-places longs words list s h = rw (sized_is longs words s) (omega arith)

first-row : (rs ts : List Rule) → is_numbered rs ≡ true → first_of (rs ++ ts) ≡ 0 → first_of rs ≡ 0
first-row [] ts n h = refl
first-row (r ∷ rs) ts n h =
    go r.holds (lt_of 0 r.number (and_left (ltb 0 r.number) (is_numbered rs) n)) h (first-row rs ts (and_right (ltb 0 r.number) (is_numbered rs) n))
  where
    go : (b : Bool) → 0 < r.number → pick b r.number (first_of (rs ++ ts)) ≡ 0 → (first_of (rs ++ ts) ≡ 0 → first_of rs ≡ 0) → pick b r.number (first_of rs) ≡ 0
    go true p k ih = absurd (omega arith)
    go false p k ih = ih k

pub passes : (s : State) (m : Message) (room : ℕ) → refusal s m room ≡ 0 → (least_room ≤ room) × (m.time ≤ most_time) × (s.clock.next ≤ most_number)
unfolding refusal
passes s m room h =
    let n : NoneOf (every_row s m room) = none_of (every_row s m room) refl (first-row (every_row s m room) (kind_row s m.body) refl h) in
    (ltb-false room least_room n.0, ltb-false most_time m.time (or_no (ltb most_time m.time) (ltb m.time s.clock.time) n.1.0).0, ltb-false most_number s.clock.next n.1.1.0)

-- ---- the clock and the auction

pub taken_longs : (l words : List ℕ) (time : ℕ) → LongsSized l → time ≤ most_time → state_of (set (set l L.next (get_or l L.next 0 + 1)) L.time time) words ≡ taken (state_of l words) time
taken_longs l words time h t =
    let a : List ℕ = set l L.next (get_or l L.next 0 + 1) in
    let b : List ℕ = set a L.time time in
    let n : get_or b L.next 0 ≡ get_or l L.next 0 + 1 =
    get_or-set_other a L.time L.next time 0 (λ e. omega arith) ∙ get_or-set_same l L.next (get_or l L.next 0 + 1) 0 (omega arith) in
    let r : min (get_or b L.time 0) most_time ≡ time = rw (get_or-set_same a L.time time 0 (simp length-set (omega arith))) (omega arith) in
    clock_alone l b words (kept_set L.next L.deadline l a L.time time (omega arith) (omega arith) (kept_set L.next L.deadline l l L.next (get_or l L.next 0 + 1) (omega arith) (omega arith) (kept_all L.next L.deadline l)))
    ∙ (λ i. state_from (strategy_of l words) (market_of words) (entries_of l words) (auction_of l words) (record { next = n i; time = r i }))

pub deadline_words : (longs words : List ℕ) → deadline_of (auction_of longs words) ≡ pick (flag (get_or words L.pending 0)) (get_or longs L.deadline 0) 0
deadline_words longs words = go (flag (get_or words L.pending 0))
  where
    go : (b : Bool) → deadline_of (pick b (pending (pending_of longs words)) none) ≡ pick b (get_or longs L.deadline 0) 0
    go true = refl
    go false = refl
