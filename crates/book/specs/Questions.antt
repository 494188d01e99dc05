-- What is asked of the open entries, where the rules have no name for it.
use Rattle.std.specs.Prelude.{◌≡◌, Option, Some, None, Bool, true, false, ◌&&◌, not, List, ℕ, ◌+◌, ◌≤◌, ◌<◌, eqb, length, take, get_or}
use Rattle.rules.specs.Basics.{pick}
use Rattle.rules.specs.Filter.{beyond}
use Rattle.rules.specs.Book.{Stage, Entry, Found, nobody, found, any, same_side, better, is_live, is_queued}
use Rattle.rules.specs.State.{State}
use Rattle.types.specs.View.{from, stage_of}
use Rattle.state.specs.Layout as L
use Rattle.state.specs.View.{entry_of, open_count}
use Rattle.state.specs.declared.Entry as S
use Rattle.state.specs.Lent.{Lent, LentMut, Tells}
use Rattle.book.specs.declared.Front.{Front}

-- ---- one entry

-- a live order on the other side that the limit reaches or misses by at most the distance
abbrev pub is_near_live : Bool → ℕ → ℕ → Entry → Bool
is_near_live buy price distance e = is_live e.stage && not (same_side buy e.buy) && not (beyond (not buy) distance price e.price)

-- a live order of that side, or one in the queue
abbrev pub is_sought : Bool → Bool → Entry → Bool
is_sought live buy e = pick live (is_live e.stage && same_side buy e.buy) (is_queued e.stage)

-- in the queue, on the other side
abbrev pub is_across : Bool → Entry → Bool
is_across buy e = is_queued e.stage && not (same_side buy e.buy)

-- in the queue, at a limit that the price is not strictly better than
abbrev pub is_unbeaten : Bool → ℕ → Entry → Bool
is_unbeaten buy price e = is_queued e.stage && not (better buy price e.price)

-- ---- some entries

-- what is kept of the first of a queue
abbrev pub front_of : Found → Option Front
front_of nobody = None
front_of (found e) = Some (record { buy = e.buy; price = e.price })

-- the first, with an order of that side and limit more before all others
abbrev pub front_with : Bool → ℕ → Option Front → Front
front_with buy price None = record { buy = buy; price = price }
front_with buy price (Some a) = pick (better a.buy a.price price) a (record { buy = buy; price = price })

-- whether an entry is at the stage of that number, by any test that tells that stage
abbrev pub AnyAt : Lent → ℕ → Bool → Type 0
AnyAt words n r = (p : Stage → Bool) → ((i : ℕ) → eqb i n ≡ p (stage_of i)) → Tells words (λ s. r ≡ any (λ e. p e.stage) s.book)

-- no entry before place k is under the id, and the one there is, if it is open
pub record FirstUnder (id : ℕ) (words : List ℕ) (k : ℕ) : Type 0 where
  pub before : (i : ℕ) → i < k → eqb (get_or words (L.ids + i) 0) id ≡ false
  pub here : k < open_count words → eqb (get_or words (L.ids + k) 0) id ≡ true

-- the entry at a place of the book, if there is one
abbrev pub found_at : (ℕ → Entry) → Option ℕ → Found
found_at f None = nobody
found_at f (Some k) = found (f k)

-- the same, by value
abbrev pub found_of : Option S.Entry → Found
found_of None = nobody
found_of (Some e) = found (entry_of e)

-- each is a place of the book
abbrev pub Inside : List ℕ → Type 0
Inside places = (i : ℕ) → get_or places i 0 < 64

-- the entries at some places, the first n of them
abbrev pub picked : (ℕ → Entry) → List ℕ → ℕ → List Entry
picked f places n = from (λ i. f (get_or places i 0)) 0 n

-- the first r of the list are the ids that f gives of the state
abbrev pub Lists : Lent → LentMut → ℕ → (State → List ℕ) → Type 0
Lists words out r f = (r ≤ 64) × (length out.exit.now ≡ 64) × Tells words (λ s. take r out.exit.now ≡ f s)
