-- One order's turn: what each slot gives, its records, and the units that it took.
use Rattle.std.specs.Prelude.{◌≡◌, List, [], ◌∷◌, ℕ, ◌+◌, ◌-◌, ◌≤◌, ltb, length, get_or, take}
use Rattle.rules.specs.Basics.{pick, sum}
use Rattle.rules.specs.Prices.{cents, Derived}
use Rattle.rules.specs.State.{contra_price}
use Rattle.rules.specs.Turn.{legs, entry, Offer, tiers, turn, Fill, fills_at, fills_of}
use Rattle.rules.specs.Execution.{Mode, inside, turn_of}
use Rattle.types.specs.View.{rank_from}
use Rattle.state.specs.Layout as L
use Rattle.state.specs.View.{entry_at, open_count, state_of}
use Rattle.state.specs.Lent.{Lent, LentMut}
use Rattle.records.specs.Records.{most_given, Adds, Writes}
use Rattle.execution.specs.Slots.{offers_in, Ranked}
use Rattle.execution.specs.declared.offers.Slots.{Slots}
use Rattle.execution.specs.declared.Order.{Order}

-- the record of units that a slot gives an order, by the legs' price and the number of its rank
abbrev pub slot_record : ℕ → ℕ → ℕ → List ℕ → ℕ → ℕ → ℕ → Fill
slot_record number order price words rank s units =
    record {
      number = number;
      order = order;
      rank = rank_from rank;
      contra = pick (ltb s 2) legs (entry (get_or words (L.ids + (s - 2)) 0));
      price = cents (pick (ltb s 2) price (get_or words (L.prices + (s - 2)) 0));
      units = units;
    }

-- "a share of 0 has none"
abbrev pub slot_records : ℕ → ℕ → ℕ → List ℕ → ℕ → ℕ → ℕ → List Fill
slot_records number order price words rank s units = pick (ltb 0 units) (slot_record number order price words rank s units ∷ []) []

-- records can be written of what the slots give an order
abbrev pub Slotted : Slots → Order → Type 0
Slotted l o = (o.legs ≤ most_given) × (l.count ≤ 66) × Ranked l.count l.tiers

-- the records of those at tier k are added, by their grants: neither arrivals nor units are read
abbrev pub WritesAt : ℕ → Lent → LentMut → ℕ → ℕ → Order → Slots → LentMut → Type 0
WritesAt k words list at r o l gave =
    (longs units : List ℕ) → Writes list at r (fills_at o.number o.id k (offers_in longs words.entry.now o.legs l.tiers units l.count) (take l.count gave.exit.now))

-- no grants yet
abbrev pub Cleared : List ℕ → Type 0
Cleared gave = (length gave ≡ 66) × ((s : ℕ) → get_or gave s 0 ≡ 0)

-- a turn for so many units over some offers: what they give, the units taken, and the records added to a list
pub record Turned (number id units : ℕ) (es : List Offer) (gave : List ℕ) (took : ℕ) (old : List ℕ) (at : ℕ) (new : List ℕ) (r : ℕ) : Type 0 where
  pub given : gave ≡ turn units es
  pub taken : took ≡ sum (turn units es)
  pub records : Adds old at new r (fills_of number id (tiers es) es (turn units es))

-- the order at place k of the book, with the legs' price for it
abbrev pub order_at : List ℕ → List ℕ → ℕ → ℕ → Order
order_at longs words k price = record { number = get_or longs L.next 0 - 1; id = get_or words (L.ids + k) 0; units = get_or words (L.units + k) 0; legs = price }

-- its derived contra price, one that a record can give
abbrev pub IsContra : List ℕ → List ℕ → ℕ → Derived → Type 0
IsContra longs words k d = (d ≡ contra_price (state_of longs words) (entry_at longs words k).buy) × (d.price ≤ most_given)

-- its turn, where the grants are those of the slots in use
abbrev pub TurnedAt : Mode → List ℕ → List ℕ → ℕ → List ℕ → ℕ → List ℕ → ℕ → List ℕ → ℕ → Type 0
TurnedAt m longs words k gave took old at new r =
    let o = entry_at longs words k in
    Turned ((state_of longs words).clock.next - 1) o.id o.units (inside m (state_of longs words) o) (take (open_count words + 2) gave) took old at new r

-- the same said of what is lent, for a contract
abbrev pub Turns : Mode → Lent → Lent → ℕ → LentMut → ℕ → LentMut → ℕ → ℕ → Type 0
Turns m longs words k gave took list at r =
    TurnedAt m longs.entry.now words.entry.now k gave.exit.now took list.entry.now at list.exit.now r

-- the grants and the units taken are those of its turn
abbrev pub Gives : Mode → List ℕ → List ℕ → ℕ → List ℕ → ℕ → Type 0
Gives m longs words k gave took =
    let t = turn_of m (state_of longs words) (entry_at longs words k) in
    (take (open_count words + 2) gave ≡ t.gave) × (took ≡ sum t.gave)
