-- What the two slices of a state stand for in the rules. Every value of every word has a meaning: a count is cut at its places, a flag is set where it is not 0, a ratio or a time above its greatest counts as that.
use Rattle.std.specs.Prelude.{Bool, not, List, ℕ, ◌+◌, ◌*◌, min, eqb, get_or}
use Rattle.rules.specs.Basics.{pick}
use Rattle.rules.specs.Strategy as S
use Rattle.rules.specs.Prices as P
use Rattle.rules.specs.Book as B
use Rattle.rules.specs.State as T
use Rattle.types.specs.View.{from, stage_of}
use Rattle.state.specs.Layout as L
use Rattle.state.specs.declared.Entry.{Entry}

-- a word as a flag
abbrev pub flag : ℕ → Bool
flag n = not (eqb n 0)

-- ---- book

-- an entry, by value
abbrev pub entry_of : Entry → B.Entry
entry_of e =
    record { id = e.id; participant = e.participant; buy = flag e.buy; customer = flag e.customer; price = e.price; units = e.units; arrival = e.arrival; stage = stage_of e.stage }

-- the entry at a place
abbrev pub entry_at : List ℕ → List ℕ → ℕ → B.Entry
entry_at longs words k =
    record {
      id = get_or words (L.ids + k) 0;
      participant = get_or words (L.participants + k) 0;
      buy = flag (get_or words (L.buys + k) 0);
      customer = flag (get_or words (L.customers + k) 0);
      price = get_or words (L.prices + k) 0;
      units = get_or words (L.units + k) 0;
      arrival = get_or longs (L.arrivals + k) 0;
      stage = stage_of (get_or words (L.stages + k) 0);
    }

-- how many entries are open
abbrev pub open_count : List ℕ → ℕ
open_count words = min (get_or words L.count 0) 64

-- the open entries, in arrival order
abbrev pub entries_of : List ℕ → List ℕ → List B.Entry
entries_of longs words = from (entry_at longs words) 0 (open_count words)

-- ---- legs and quotes

-- the ratio of a leg
abbrev pub ratio_of : List ℕ → ℕ → ℕ
ratio_of words k = min (get_or words (L.ratios + k) 0) 9

-- the symbol of a leg
abbrev pub symbol_of : List ℕ → ℕ → List ℕ
symbol_of words k = from (λ i. get_or words (L.symbols + 21 * k + i) 0) 0 21

-- the leg at a place
abbrev pub leg_at : List ℕ → ℕ → S.Leg
leg_at words k = record { symbol = symbol_of words k; side = get_or words (L.sides + k) 0; ratio = ratio_of words k; mpv = get_or words (L.mpvs + k) 0 }

-- how many legs there are
abbrev pub leg_count : List ℕ → ℕ
leg_count words = min (get_or words L.leg_counts 0) 4

-- the legs
abbrev pub legs_of : List ℕ → List S.Leg
legs_of words = from (leg_at words) 0 (leg_count words)

-- the quote at a place
abbrev pub quote_at : List ℕ → ℕ → P.Quote
quote_at words k =
    record {
      bid = record { price = get_or words (L.bids + k) 0; size = get_or words (L.bid_sizes + k) 0 };
      ask = record { price = get_or words (L.asks + k) 0; size = get_or words (L.ask_sizes + k) 0 };
      national_bid = get_or words (L.national_bids + k) 0;
      national_ask = get_or words (L.national_asks + k) 0;
    }

-- a quote for each leg
abbrev pub market_of : List ℕ → List P.Quote
market_of words = from (quote_at words) 0 (leg_count words)

-- ---- auction

-- the price at a place of what is kept of the legs
abbrev pub start_at : List ℕ → List ℕ → ℕ → P.Derived
start_at longs words k = record { price = get_or longs (L.start_prices + k) 0; units = get_or words (L.start_units + k) 0 }

-- how many prices are kept
abbrev pub start_count : List ℕ → ℕ
start_count longs = min (get_or longs L.start_count 0) 1

-- what is known of an auction while it is pending
abbrev pub pending_of : List ℕ → List ℕ → T.Pending
pending_of longs words = record { buy = flag (get_or words L.buy 0); deadline = get_or longs L.deadline 0; start = from (start_at longs words) 0 (start_count longs) }

-- the auction
abbrev pub auction_of : List ℕ → List ℕ → T.Auction
auction_of longs words = pick (flag (get_or words L.pending 0)) (T.pending (pending_of longs words)) T.none

-- ---- the rest

-- the settings
abbrev pub settings_of : List ℕ → List ℕ → S.Settings
settings_of longs words =
    record {
      interval = get_or words L.interval 0;
      distance = get_or words L.distance 0;
      most_legs = get_or words L.most_legs 0;
      amount1 = get_or words L.amounts 0;
      amount5 = get_or words (L.amounts + 1) 0;
      amount10 = get_or words (L.amounts + 2) 0;
      minimum = get_or words L.minimum 0;
      first_number = get_or longs L.first_number 0;
      opening_time = get_or longs L.opening_time 0;
    }

-- the strategy
abbrev pub strategy_of : List ℕ → List ℕ → S.Strategy
strategy_of longs words = record { legs = legs_of words; settings = settings_of longs words }

-- the clock
abbrev pub clock_of : List ℕ → T.Clock
clock_of longs = record { next = get_or longs L.next 0; time = min (get_or longs L.time 0) S.most_time }

-- the state
abbrev pub state_of : List ℕ → List ℕ → T.State
state_of longs words = T.state_from (strategy_of longs words) (market_of words) (entries_of longs words) (auction_of longs words) (clock_of longs)
