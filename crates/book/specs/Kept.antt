-- Who stays in the book, and entries moved by one place.
use Rattle.std.specs.Prelude.{◌≡◌, Bool, List, ℕ, ◌+◌, ◌*◌, ◌≤◌, ◌<◌, length, get_or}
use Rattle.rules.specs.Book.{Entry, only}
use Rattle.state.specs.Layout as L
use Rattle.state.specs.Layout.{Sized}
use Rattle.state.specs.View.{entry_at, open_count, entries_of}
use Rattle.state.specs.Stores.{Kept}

-- the open entries are those that meet a condition, for every condition that the flags say; nothing outside the book changes
pub record KeptBy (flag : ℕ → Bool) (a l b m : List ℕ) : Type 0 where
  pub longs : Kept L.arrivals L.next a b
  pub words : Kept L.ids L.bids l m
  pub entries : (p : Entry → Bool) → ((i : ℕ) → i < open_count l → flag i ≡ p (entry_at a l i)) → entries_of b m ≡ only p (entries_of a l)

-- in the first n columns of 64 those behind place k, up to before place m, moved by one place
pub record Columns (k m n : ℕ) (old new : List ℕ) : Type 0 where
  pub sized : length new ≡ length old
  pub before : (q i : ℕ) → q < n → i < k → get_or new (q * 64 + i) 0 ≡ get_or old (q * 64 + i) 0
  pub moved : (q i : ℕ) → q < n → k ≤ i → i + 1 < m → get_or new (q * 64 + i) 0 ≡ get_or old (q * 64 + (i + 1)) 0
  pub behind : (q i : ℕ) → q < n → m ≤ i + 1 → i < 64 → get_or new (q * 64 + i) 0 ≡ get_or old (q * 64 + i) 0
  pub ahead : (i : ℕ) → n * 64 ≤ i → get_or new i 0 ≡ get_or old i 0

-- the gap at place k has come to w: the entries between have moved by one place
pub record Closing (k w : ℕ) (a l b m : List ℕ) : Type 0 where
  pub sized : Sized b m
  pub longs : Kept L.arrivals L.next a b
  pub words : Kept L.ids L.count l m
  pub before : (i : ℕ) → i < k → entry_at b m i ≡ entry_at a l i
  pub moved : (i : ℕ) → k ≤ i → i < w → entry_at b m i ≡ entry_at a l (i + 1)
  pub ahead : (i : ℕ) → w < i → i < 64 → entry_at b m i ≡ entry_at a l i
