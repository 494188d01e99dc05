-- Where the numbers of a state stand in its two slices; the constants of the code have the same names.
use Rattle.std.specs.Prelude.{◌≡◌, Bool, ◌&&◌, List, ℕ, eqb, length}

-- the longs of a state
abbrev pub LongsSized : List ℕ → Type 0
LongsSized longs = length longs ≡ 71

-- the words of a state
abbrev pub WordsSized : List ℕ → Type 0
WordsSized words = length words ≡ 580

-- both
abbrev pub Sized : List ℕ → List ℕ → Type 0
Sized longs words = LongsSized longs × WordsSized words

-- the same as a test
abbrev pub is_sized : List ℕ → List ℕ → Bool
is_sized longs words = eqb (length longs) 71 && eqb (length words) 580

-- ---- book

abbrev pub arrivals : ℕ
arrivals = 0

abbrev pub ids : ℕ
ids = 0

abbrev pub participants : ℕ
participants = 64

abbrev pub prices : ℕ
prices = 128

abbrev pub units : ℕ
units = 192

abbrev pub buys : ℕ
buys = 256

abbrev pub customers : ℕ
customers = 320

abbrev pub stages : ℕ
stages = 384

abbrev pub count : ℕ
count = 448

-- ---- market: the book ends and the market begins here
abbrev pub bids : ℕ
bids = 449

abbrev pub bid_sizes : ℕ
bid_sizes = 453

abbrev pub asks : ℕ
asks = 457

abbrev pub ask_sizes : ℕ
ask_sizes = 461

abbrev pub national_bids : ℕ
national_bids = 465

abbrev pub national_asks : ℕ
national_asks = 469

-- ---- legs: the market ends and the legs begin here
abbrev pub sides : ℕ
sides = 473

abbrev pub ratios : ℕ
ratios = 477

abbrev pub mpvs : ℕ
mpvs = 481

abbrev pub leg_counts : ℕ
leg_counts = 485

abbrev pub symbols : ℕ
symbols = 496

-- ---- settings

abbrev pub minimum : ℕ
minimum = 486

abbrev pub interval : ℕ
interval = 487

abbrev pub distance : ℕ
distance = 488

abbrev pub most_legs : ℕ
most_legs = 489

abbrev pub amounts : ℕ
amounts = 490

abbrev pub first_number : ℕ
first_number = 69

abbrev pub opening_time : ℕ
opening_time = 70

-- ---- auction

abbrev pub pending : ℕ
pending = 493

abbrev pub buy : ℕ
buy = 494

abbrev pub start_units : ℕ
start_units = 495

abbrev pub deadline : ℕ
deadline = 66

abbrev pub start_prices : ℕ
start_prices = 67

abbrev pub start_count : ℕ
start_count = 68

-- ---- clock

abbrev pub next : ℕ
next = 64

abbrev pub time : ℕ
time = 65
