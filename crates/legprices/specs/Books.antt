-- What is written for the records of a turn: their leg prices.
use Rattle.std.specs.Prelude.{◌≡◌, Bool, List, ℕ, ◌*◌, ◌≤◌, ◌<◌, length, get_or}
use Rattle.rules.specs.LegPrices.{booked}
use Rattle.types.specs.View.{from}
use Rattle.state.specs.View.{legs_of, market_of}
use Rattle.state.specs.Lent.{Lent, LentMut}
use Rattle.records.specs.Records.{width, record_in, prices_in}

-- the records of a buyer or a seller from place `at` to before `end` of a list have the leg prices of the rules, if the list has those places; nothing else changes
pub record IsBooked (words list : List ℕ) (at end : ℕ) (buy : Bool) (list' : List ℕ) : Type 0 where
  pub sized : length list' ≡ length list
  pub before : (i : ℕ) → i < at * width → get_or list' i 0 ≡ get_or list i 0
  pub behind : (i : ℕ) → end * width ≤ i → get_or list' i 0 ≡ get_or list i 0
  pub records : (j : ℕ) → record_in list' j ≡ record_in list j
  pub prices : end * width ≤ length list → from (prices_in list') at end ≡ booked buy (legs_of words) (market_of words) (from (record_in list) at end)

-- the same said of what is lent, for a contract
abbrev pub Books : Lent → LentMut → ℕ → ℕ → Bool → Type 0
Books words list at end buy = IsBooked words.entry.now list.entry.now at end buy list.exit.now
