-- The interest open to an order in slots, a tier and units for each: slot 0 is the legs in rank L, slot 1 the legs in rank T, slot k + 2 the entry at place k of the book.
use Rattle.std.specs.Prelude.{◌≡◌, List, ℕ, ◌+◌, ◌-◌, ◌/◌, ◌%◌, ◌≤◌, ◌<◌, eqb, ltb, get_or, take}
use Rattle.rules.specs.Basics.{pick}
use Rattle.rules.specs.Turn.{Rank, legs, entry, key_of, Offer, tier}
use Rattle.rules.specs.Execution.{Mode as RulesMode, from_queue, going_live, legs_pass, offer_of, legs_offer, up_to}
use Rattle.types.specs.View.{from, rank_from}
use Rattle.state.specs.Layout as L
use Rattle.state.specs.View.{entry_at}
use Rattle.execution.specs.declared.offers.Slots.{Slots}
use Rattle.execution.specs.declared.offers.Mode.{Mode}
use Rattle.execution.specs.declared.offers.Mode.TheVariants.{FromQueue, GoingLive, LegsPass}

-- a mode
abbrev pub rules_mode : Mode → RulesMode
rules_mode FromQueue = from_queue
rules_mode GoingLive = going_live
rules_mode LegsPass = legs_pass

-- the mode of a number
abbrev pub mode_of : ℕ → RulesMode
mode_of n = pick (eqb n 0) from_queue (pick (eqb n 1) going_live legs_pass)

-- the offer in slot s, where the legs' price is given: its key and its rank are those of its tier
abbrev pub offer_in : List ℕ → List ℕ → ℕ → List ℕ → List ℕ → ℕ → Offer
offer_in longs words price tiers units s =
    record {
      contra = pick (ltb s 2) legs (entry (get_or words (L.ids + (s - 2)) 0));
      price = pick (ltb s 2) price (get_or words (L.prices + (s - 2)) 0);
      key = get_or tiers s 0 / 8;
      rank = rank_from (get_or tiers s 0 % 8);
      units = get_or units s 0;
      arrival = pick (ltb s 2) 0 (get_or longs (L.arrivals + (s - 2)) 0);
    }

-- the offers in the first n slots
abbrev pub offers_in : List ℕ → List ℕ → ℕ → List ℕ → List ℕ → ℕ → List Offer
offers_in longs words price tiers units n = from (offer_in longs words price tiers units) 0 n

-- the tiers and the units of the slots in use, and the offers there
abbrev pub tiers_in : Slots → List ℕ
tiers_in l = take l.count l.tiers

abbrev pub units_in : Slots → List ℕ
units_in l = take l.count l.units

abbrev pub slot_offers : List ℕ → List ℕ → ℕ → Slots → List Offer
slot_offers longs words price l = offers_in longs words price l.tiers l.units l.count

-- the first n tiers are of ranks that there are
abbrev pub Ranked : ℕ → List ℕ → Type 0
Ranked n tiers = (s : ℕ) → s < n → get_or tiers s 0 % 8 ≤ 4

-- what the legs at a price offer the order at place k within its limit, n units in a rank
abbrev pub legs_within : List ℕ → List ℕ → ℕ → ℕ → Rank → ℕ → Offer
legs_within longs words k price r n = let o = entry_at longs words k in up_to (key_of o.buy o.price) (legs_offer r o.buy price n)

-- what the entry at place i offers the order at place k within its limit
abbrev pub book_offer : RulesMode → List ℕ → List ℕ → ℕ → ℕ → Offer
book_offer m longs words k i = let o = entry_at longs words k in up_to (key_of o.buy o.price) (offer_of m o (entry_at longs words i))

-- the first n of these offers stand in the slots from 2 on
abbrev pub Stand : (ℕ → Offer) → ℕ → List ℕ → List ℕ → Type 0
Stand offer n tiers units = (i : ℕ) → i < n → (get_or tiers (i + 2) 0 ≡ tier (offer i)) × (get_or units (i + 2) 0 ≡ (offer i).units)
