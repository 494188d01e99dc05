-- What is stored of an opening, place by place.
use Rattle.std.specs.Prelude.{◌≡◌, List, [], ◌∷◌, ℕ, ◌+◌, ◌*◌, ◌<◌, get_or}
use Rattle.types.specs.declared.Leg.{Leg}
use Rattle.types.specs.declared.Settings.{Settings}
use Rattle.state.specs.Layout as L
use Rattle.state.specs.Stores.{Kept, Store, store}

-- the words of a leg's symbol are its bytes, and outside them all is as it was
pub record HasSymbol (k : ℕ) (bytes old new : List ℕ) : Type 0 where
  pub here : (i : ℕ) → i < 21 → get_or new (L.symbols + 21 * k + i) 0 ≡ get_or bytes i 0
  pub kept : Kept (L.symbols + 21 * k) (L.symbols + 21 * k + 21) old new

-- the words of leg k are l
pub record HasLeg (words : List ℕ) (k : ℕ) (l : Leg) : Type 0 where
  pub side : get_or words (L.sides + k) 0 ≡ l.side
  pub ratio : get_or words (L.ratios + k) 0 ≡ l.ratio
  pub mpv : get_or words (L.mpvs + k) 0 ≡ l.mpv
  pub symbol : (i : ℕ) → i < 21 → get_or words (L.symbols + 21 * k + i) 0 ≡ get_or l.symbol i 0

-- leg k is stored, and the legs before it are as they were
pub record StoresLeg (k : ℕ) (l : Leg) (old new : List ℕ) : Type 0 where
  pub here : HasLeg new k l
  pub before : (i : ℕ) (m : Leg) → i < k → HasLeg old i m → HasLeg new i m

-- nothing is quoted, and outside the quotes all is as it was
pub record NothingQuoted (old new : List ℕ) : Type 0 where
  pub none : (i : ℕ) → i < 24 → get_or new (L.bids + i) 0 ≡ 0
  pub kept : Kept L.bids L.sides old new

-- nothing open, the leg count, no auction
abbrev pub count_stores : ℕ → List Store
count_stores n = store L.count 0 ∷ store L.leg_counts n ∷ store L.pending 0 ∷ []

-- the settings that stand in the words
abbrev pub setting_stores : Settings → List Store
setting_stores c =
    store L.minimum c.minimum
    ∷ store L.interval c.interval
    ∷ store L.distance c.distance
    ∷ store L.most_legs c.legs
    ∷ store L.amounts c.amounts.one
    ∷ store (L.amounts + 1) c.amounts.five
    ∷ store (L.amounts + 2) c.amounts.ten
    ∷ []

-- the clock as it is set, and the settings that stand in the longs
abbrev pub clock_stores : Settings → List Store
clock_stores c = store L.next c.first ∷ store L.time c.time ∷ store L.first_number c.first ∷ store L.opening_time c.time ∷ []
