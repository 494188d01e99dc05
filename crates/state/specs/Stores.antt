-- Numbers stored in a slice, and what a store leaves as it was.
use Rattle.std.specs.Prelude.{◌≡◌, List, [], ◌∷◌, ℕ, ◌+◌, ◌≤◌, ◌<◌, get_or, set}
use Rattle.state.specs.Layout as L
use Rattle.state.specs.declared.Entry.{Entry}

-- outside the places from a to before b all is as it was
pub record Kept (a b : ℕ) (old new : List ℕ) : Type 0 where
  pub below : (i : ℕ) → i < a → get_or new i 0 ≡ get_or old i 0
  pub above : (i : ℕ) → b ≤ i → get_or new i 0 ≡ get_or old i 0

-- a number and where it is stored
pub record Store : Type 0 where
  pub at : ℕ
  pub number : ℕ

-- where, and which
abbrev pub store : ℕ → ℕ → Store
store at n = record { at = at; number = n }

-- some stores, one after another
abbrev pub stores : List ℕ → List Store → List ℕ
stores l [] = l
stores l (s ∷ ss) = stores (set l s.at s.number) ss

-- numbers at place k of the columns of 64 from a on, one in each
abbrev pub columns : ℕ → ℕ → List ℕ → List Store
columns a k [] = []
columns a k (x ∷ xs) = store (a + k) x ∷ columns (a + 64) k xs

-- an entry's arrival number at a place of the book
abbrev pub put_longs : List ℕ → ℕ → Entry → List ℕ
put_longs l k e = stores l (columns L.arrivals k (e.arrival ∷ []))

-- all else of it
abbrev pub entry_words : Entry → List ℕ
entry_words e = e.id ∷ e.participant ∷ e.price ∷ e.units ∷ e.buy ∷ e.customer ∷ e.stage ∷ []

-- in the columns of the words
abbrev pub put_words : List ℕ → ℕ → Entry → List ℕ
put_words l k e = stores l (columns L.ids k (entry_words e))
