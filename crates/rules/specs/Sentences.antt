-- Documents 01 and 02, sentence by sentence: one table of a few messages each, and the fact that the rules answer as it says.
use Rattle.std.specs.Prelude.{◌≡◌, true, false, List, [], ◌∷◌, ◌++◌, map, ℕ, zero, suc, ◌+◌, ◌/◌, ◌%◌, ℤ, pos, negsuc, set, replicate, take, drop}
use Rattle.rules.specs.Series.{Symbol}
use Rattle.rules.specs.Strategy.{Leg, Strategy, opening_refusal}
use Rattle.rules.specs.Book.{count, is_response}
use Rattle.rules.specs.Messages.{Terms, Body, local, national, order, response, modify, cancel, clock, reduce, Message}
use Rattle.rules.specs.Refusals.{is_order}
use Rattle.rules.specs.Turn.{Rank, L, C, N, T, R, Contra, legs, entry, sizes, Fill}
use Rattle.rules.specs.LegPrices.{LegPrices, unpriced, priced}
use Rattle.rules.specs.Outcome.{by_time, by_order, by_legs, by_cancel, Outcome, Noted, Placed, Begun, Joined, Ended, Refused}
use Rattle.rules.specs.Execution.{Turn}
use Rattle.rules.specs.Step.{Answer}
use Rattle.rules.specs.Run.{start_of, Sent, answer_to, answers, after}
use Rattle.rules.specs.Tape.{tape_refusal, Tape, reads, tape_of}
use Rattle.rules.specs.Average.{Average, none, average_for, OrderAverage, averages}
use Rattle.rules.specs.Print.{Line, title_line, fill_line, average_line, refused_line, last_line, lines_of}
use Rattle.rules.specs.Cases.{symbol_of, pair, spread, sent, quote, nbbo, terms, buys, asks, sells, begin, market}

-- ---- rows

-- what a row asks: the answer to a message after others, the outcomes of messages after others, the numbers of openings and of tapes, what a tape means and what it prints, the averages of a message after others and that of one order, what the legs offer the first order that a message executes, and the leg prices of its records
pub data Asked : Type 0 where
  answer_after : Strategy → List Sent → Sent → Asked
  outcomes_after : Strategy → List Sent → List Sent → Asked
  openings : List Strategy → Asked
  tapes : List (List ℕ) → Asked
  reading_of : List ℕ → Asked
  print_of : List ℕ → Asked
  averages_after : Strategy → List Sent → Sent → Asked
  average_after : Strategy → List Sent → Sent → ℕ → Asked
  legs_offered : Strategy → List Sent → Sent → Asked
  prices_after : Strategy → List Sent → Sent → Asked

-- and what is expected: an outcome, its records, and how many orders and responses are open after it; outcomes; numbers, 0 for a pass, or units of rank L and of rank T; a tape read; lines; averages; one of them; leg prices
pub data Expected : Type 0 where
  told : Outcome → List Fill → ℕ → ℕ → Expected
  outcomes : List Outcome → Expected
  numbers : List ℕ → Expected
  reading : Tape → Expected
  lines : List Line → Expected
  averaged : List OrderAverage → Expected
  average_is : Average → Expected
  priced_as : List LegPrices → Expected

-- an answer, told
abbrev pub told_of : Answer → Expected
told_of a = told a.outcome a.fills (count is_order a.state.book) (count (λ e. is_response e.stage) a.state.book)

-- the units of the two offers of the legs, in the first of some turns
abbrev pub first_offered : List Turn → List ℕ
first_offered [] = []
first_offered (t ∷ ts) = take 2 (sizes t.offers)

-- what the rules say
abbrev pub said : Asked → Expected
said (answer_after o ms m) = told_of (answer_to (after (start_of o) ms) m)
said (outcomes_after o ms ns) = outcomes (map (λ a. a.outcome) (answers (after (start_of o) ms) ns))
said (openings os) = numbers (map opening_refusal os)
said (tapes ts) = numbers (map tape_refusal ts)
said (reading_of t) = reading (tape_of t)
said (print_of t) = lines (lines_of t)
said (averages_after o ms m) = averaged (averages (answer_to (after (start_of o) ms) m).fills)
said (average_after o ms m i) = average_is (average_for i (answer_to (after (start_of o) ms) m).fills)
said (legs_offered o ms m) = numbers (first_offered (answer_to (after (start_of o) ms) m).turns)
said (prices_after o ms m) = priced_as (answer_to (after (start_of o) ms) m).prices

-- a row of the table: its number, by which it is cited, and its two columns
pub record Row : Type 0 where
  pub number : ℕ
  pub asked : Asked
  pub expected : Expected

-- a row, from these
abbrev pub row : ℕ → Asked → Expected → Row
row n q e = record { number = n; asked = q; expected = e }

-- ---- strategies

-- the letter B
abbrev pub B : ℕ
B = 66

-- the letter S
abbrev pub S : ℕ
S = 83

-- a leg `XYZ   26011dC000pq000`: d, p, q, its side, ratio and MPV
abbrev pub leg : ℕ → ℕ → ℕ → ℕ → ℕ → ℕ → Leg
leg d p q side ratio mpv = record { symbol = symbol_of d p q; side = side; ratio = ratio; mpv = mpv }

-- legs with the nine settings, in the header's order
abbrev pub in_class : List Leg → ℕ → ℕ → ℕ → ℕ → ℕ → ℕ → ℕ → ℕ → ℕ → Strategy
in_class ls interval distance most a1 a5 a10 minimum first time =
    record {
      legs = ls;
      settings =
          record {
            interval = interval;
            distance = distance;
            most_legs = most;
            amount1 = a1;
            amount5 = a5;
            amount10 = a10;
            minimum = minimum;
            first_number = first;
            opening_time = time;
          };
    }

-- the same with the spread's interval and amounts: distance, most legs, minimum, first number, opening time
abbrev pub classed : List Leg → ℕ → ℕ → ℕ → ℕ → ℕ → Strategy
classed ls distance most minimum first time = in_class ls 500 distance most 10 15 30 minimum first time

-- legs in the spread's class
abbrev pub usual : List Leg → Strategy
usual ls = classed ls 10 4 1 1 0

-- the spread's first symbol
abbrev pub c20 : Symbol
c20 = symbol_of 6 2 0

-- the spread with another first symbol
abbrev pub series : Symbol → Strategy
series s = usual (record { symbol = s; side = B; ratio = 1; mpv = 5 } ∷ leg 6 2 5 S 1 5 ∷ [])

-- a number of two digits
abbrev pub two_digits : ℕ → List ℕ
two_digits n = (48 + n / 10) ∷ (48 + n % 10) ∷ []

-- the spread with another date in its first symbol: year, month and day
abbrev pub dated : ℕ → ℕ → ℕ → Strategy
dated y m d = series (take 6 c20 ++ two_digits y ++ two_digits m ++ two_digits d ++ drop 12 c20)

-- the spread, and C 30 B 1
abbrev pub three : List Leg
three = leg 6 2 0 B 1 5 ∷ leg 6 2 5 S 1 5 ∷ leg 6 3 0 B 1 5 ∷ []

-- ---- messages

-- the same message at another time
abbrev pub at : ℕ → Sent → Sent
at t m = sent m.message.body t

-- an order that asks for an auction: side, id, units, limit
abbrev pub wishes : ℕ → ℕ → ℕ → ℤ → Sent
wishes side id units price = sent (order (terms side 1 id units price) true) 0

-- an order that does not
abbrev pub no_wish : Terms → Sent
no_wish t = sent (order t false) 0

-- one that buys
abbrev pub buyer : ℕ → ℕ → ℕ → ℤ → Sent
buyer account id units price = no_wish (terms B account id units price)

-- a response that buys
abbrev pub bids : ℕ → ℕ → ℕ → ℤ → Sent
bids account id units price = sent (response (terms B account id units price)) 0

-- a response modified: side, id, participant, units, price
abbrev pub changes : ℕ → ℕ → ℕ → ℕ → ℤ → Sent
changes side id participant units price = sent (modify (record { side = side; id = id; participant = participant; units = units; price = price })) 0

-- an order cancelled by a participant
abbrev pub cancels : ℕ → ℕ → Sent
cancels id participant = sent (cancel id participant) 0

-- an order reduced by a participant to so many units
abbrev pub reduces : ℕ → ℕ → ℕ → Sent
reduces id participant units = sent (reduce id participant units) 0

-- the clock at the deadline of an auction that began at 0
abbrev pub at_deadline : Sent
at_deadline = sent clock 500

-- order 7 buys and begins an auction; its contra price is the derived ask of 130
abbrev pub began : ℕ → ℤ → List Sent
began units price = market ++ (wishes B 7 units price ∷ [])

-- the same where no leg is quoted; its contra price is that of live order 1, which sells so many units at 130
abbrev pub began_against : ℕ → ℕ → ℤ → List Sent
began_against sold units price = sells 1 1 sold (pos 130) ∷ wishes B 7 units price ∷ []

-- the derived ask of 130 shows 15 units
abbrev pub fifteen : List Sent
fifteen = quote 0 220 10 240 15 ∷ quote 1 110 15 125 10 ∷ []

-- national quotes with a contra price of 130 for buyers and 95 for sellers
abbrev pub nationals : List Sent
nationals = nbbo 0 220 240 ∷ nbbo 1 110 125 ∷ []

-- orders n down to 1, which buy a unit at 1 each
abbrev pub waiting : ℕ → List Sent
waiting zero = []
waiting (suc n) = buyer 1 (suc n) 1 (pos 1) ∷ waiting n

-- responses 100 + n down to 101, which sell a unit at 200 each
abbrev pub answering : ℕ → List Sent
answering zero = []
answering (suc n) = asks 1 (100 + suc n) 1 (pos 200) 0 ∷ answering n

-- a record: message, order, rank, contra, price, units
abbrev pub took : ℕ → ℕ → Rank → Contra → ℕ → ℕ → Fill
took n i r c p u = record { number = n; order = i; rank = r; contra = c; price = pos p; units = u }

-- an order's average
abbrev pub average_of : ℕ → ℤ → ℕ → OrderAverage
average_of i q r = record { order = i; quotient = q; remainder = r }

-- order 1 sells a unit at -3, order 2 one at -4
abbrev pub negatives : List Sent
negatives = sells 1 1 1 (negsuc 2) ∷ sells 1 2 1 (negsuc 3) ∷ []

-- ---- tapes

-- "Little-endian": n bytes of a number
abbrev pub little : ℕ → ℕ → List ℕ
little zero x = []
little (suc n) x = x % 256 ∷ little n (x / 256)

-- numbers of n bytes each, one after another
abbrev pub packed : ℕ → List ℕ → List ℕ
packed n [] = []
packed n (x ∷ xs) = little n x ++ packed n xs

-- a header: legs and where, messages and where; the spread's settings
abbrev pub header : ℕ → ℕ → ℕ → ℕ → List ℕ
header ls legs_at ms messages_at = packed 2 (ls ∷ legs_at ∷ ms ∷ messages_at ∷ 500 ∷ 10 ∷ 4 ∷ 10 ∷ 15 ∷ 30 ∷ []) ++ packed 4 (1 ∷ []) ++ packed 8 (1 ∷ 0 ∷ [])

-- a leg's bytes
abbrev pub packed_leg : Leg → List ℕ
packed_leg l = l.symbol ++ (l.side ∷ l.ratio ∷ l.mpv ∷ [])

-- the spread's legs
abbrev pub packed_legs : List ℕ
packed_legs = packed_leg (leg 6 2 0 B 1 5) ++ packed_leg (leg 6 2 5 S 1 5)

-- a message's bytes: four numbers of one byte, six of four, the time
abbrev pub packed_message : List ℕ → List ℕ → ℕ → List ℕ
packed_message ones fours time = ones ++ packed 4 fours ++ little 8 time

-- a message of a kind, all else 0
abbrev pub blank : ℕ → List ℕ
blank kind = packed_message (kind ∷ 0 ∷ 0 ∷ 0 ∷ []) (replicate 6 0) 0

-- a message of a kind, with a number in each field; the price is -8
abbrev pub full : ℕ → List ℕ
full kind = packed_message (kind ∷ B ∷ 2 ∷ 3 ∷ []) (5 ∷ 6 ∷ 7 ∷ 4_294_967_288 ∷ 9 ∷ 10 ∷ []) 11

-- the order or response of those
abbrev pub full_terms : Terms
full_terms = record { side = B; account = 2; id = 5; participant = 6; units = 7; price = negsuc 7 }

-- a message at the time of those
abbrev pub timed : Body → Message
timed b = record { time = 11; body = b }

-- "Own case"; what a kind does not use is 99
abbrev pub own_case : List ℕ
own_case =
    header 2 40 5 88 ++ packed_legs
    ++ packed_message (1 ∷ 99 ∷ 99 ∷ 0 ∷ []) (99 ∷ 99 ∷ 10 ∷ 220 ∷ 240 ∷ 10 ∷ []) 0 ++ packed_message (1 ∷ 99 ∷ 99 ∷ 1 ∷ []) (99 ∷ 99 ∷ 10 ∷ 110 ∷ 120 ∷ 10 ∷ []) 0
    ++ packed_message (3 ∷ B ∷ 1 ∷ 0 ∷ []) (7 ∷ 1 ∷ 10 ∷ 100 ∷ 99 ∷ 99 ∷ []) 0 ++ packed_message (3 ∷ S ∷ 1 ∷ 0 ∷ []) (8 ∷ 1 ∷ 15 ∷ 100 ∷ 99 ∷ 99 ∷ []) 0
    ++ packed_message (6 ∷ 99 ∷ 99 ∷ 99 ∷ []) (9 ∷ 1 ∷ 99 ∷ 99 ∷ 99 ∷ 99 ∷ []) 0

-- ---- the table

-- "Strategy and series"
abbrev pub series_rows : List Row
series_rows =
    -- "Symbol: root of 1 to 6 capitals padded with spaces to 6, yymmdd .., C or P, strike as 8 digits .., not zero"; "a month outside 01 to 12 included"
    row 1 (openings (map series (set c20 0 32 ∷ set c20 1 32 ∷ set c20 0 64 ∷ set c20 0 91 ∷ set c20 5 65 ∷ set c20 6 47 ∷ set c20 6 58 ∷ set c20 9 48
    ∷ set (set c20 8 49) 9 51 ∷ set c20 12 88 ∷ set c20 13 58 ∷ set c20 16 48
    ∷ set (set c20 8 49) 9 50 ∷ set (set c20 10 48) 11 48 ∷ set c20 10 51 ∷ set c20 3 65 ∷ set c20 12 80 ∷ [])))
    (numbers (replicate 12 2 ++ (3 ∷ 3 ∷ 3 ∷ 4 ∷ 0 ∷ [])))
    -- "Ratios are 1 to 9. For any two legs neither ratio is above three times the other (002). The greatest common divisor of the ratios is 1"; an MPV "of 1, 5 or 10 cents"
    ∷ row 2 (openings (pair 6 B 3 S 1 1 ∷ pair 6 B 4 S 1 5 ∷ pair 6 B 9 S 4 10 ∷ pair 6 B 10 S 7 5 ∷ pair 6 B 0 S 1 5
    ∷ usual (leg 6 2 0 B 2 5 ∷ leg 6 2 5 S 4 5 ∷ leg 6 3 0 B 3 5 ∷ []) ∷ usual (leg 6 2 0 B 2 5 ∷ leg 6 2 5 S 4 5 ∷ leg 6 3 0 B 6 5 ∷ []) ∷ pair 6 B 1 S 1 2 ∷ []))
    (numbers (0 ∷ 5 ∷ 0 ∷ 5 ∷ 5 ∷ 0 ∷ 5 ∷ 6 ∷ []))
    ∷ []

-- "Prices"
abbrev pub price_rows : List Row
price_rows =
    -- "A local derived price exists only where each leg side used shows at least ratio contracts": 1 of 2, then 2
    row 3 (outcomes_after (pair 6 B 1 S 2 5) (quote 0 220 10 240 10 ∷ quote 1 50 1 60 9 ∷ []) (wishes B 7 5 (pos 140) ∷ quote 1 50 2 60 9 ∷ []))
    (outcomes (Placed 5 0 ∷ Noted 1 ∷ []))
    -- "Filling legs lowers those sizes by ratio × units": 6 contracts of 9
    ∷ row 4 (outcomes_after (pair 6 B 1 S 2 5) (quote 0 220 10 240 10 ∷ quote 1 50 9 60 9 ∷ []) (buyer 1 1 3 (pos 140) ∷ buyer 1 2 3 (pos 140) ∷ []))
    (outcomes (Placed 0 1 ∷ Placed 2 1 ∷ []))
    -- "Net limits run from -40,000,000 to 40,000,000, zero included"
    ∷ row 5 (outcomes_after spread []
    (buyer 1 1 1 (negsuc 39_999_999) ∷ buyer 1 2 1 (negsuc 40_000_000) ∷ buyer 1 3 1 (pos 0) ∷ sells 1 4 1 (pos 40_000_000) ∷ sells 1 5 1 (pos 40_000_001) ∷ []))
    (outcomes (Placed 1 0 ∷ Refused 30 ∷ Placed 1 0 ∷ Placed 1 0 ∷ Refused 30 ∷ []))
    -- filter, "only if every leg has a national bid and ask": no ask of leg 1, no bid of leg 0, all
    ∷ row 6 (outcomes_after spread (nbbo 0 1 240 ∷ nbbo 1 110 0 ∷ [])
    (buyer 1 7 1 (pos 200) ∷ nbbo 0 0 240 ∷ nbbo 1 110 1 ∷ buyer 1 8 1 (pos 200) ∷ nbbo 0 1 240 ∷ buyer 1 9 1 (pos 200) ∷ []))
    (outcomes (Placed 1 0 ∷ Noted 0 ∷ Noted 0 ∷ Placed 1 0 ∷ Noted 0 ∷ Refused 33 ∷ []))
    -- "the smallest, the earlier leg on a tie": 100 and 100, amounts 10 and 30
    ∷ row 7 (outcomes_after (usual (leg 6 2 0 B 1 1 ∷ leg 6 2 5 S 1 10 ∷ [])) (nbbo 0 90 100 ∷ nbbo 1 100 110 ∷ []) (buyer 1 7 1 (pos 11) ∷ buyer 1 8 1 (pos 10) ∷ []))
    (outcomes (Refused 33 ∷ Placed 1 0 ∷ []))
    -- "for orders alone": a seller, and a response that sells
    ∷ row 8 (outcomes_after spread (nationals ++ began_against 5 5 (pos 130)) (sells 1 8 1 (pos 79) ∷ sells 1 8 1 (pos 80) ∷ asks 1 20 1 (pos 79) 0 ∷ []))
    (outcomes (Refused 33 ∷ Placed 1 0 ∷ Noted 0 ∷ []))
    ∷ []

-- "Order and auction life", without an auction
abbrev pub life_rows : List Row
life_rows =
    -- "Each accepted message takes the next arrival number": a refused one takes none, and moves no time
    row 9 (answer_after spread (market ++ (at 700 (cancels 9 1) ∷ [])) (at 600 (buys 5 (pos 130)))) (told (Placed 0 1) (took 3 7 L legs 130 5 ∷ []) 0 0)
    -- "Ids are free again once their entry is filled, cancelled or expired"
    ∷ row 10 (outcomes_after spread market
    (buyer 1 1 5 (pos 130) ∷ buyer 1 1 5 (pos 120) ∷ cancels 1 1 ∷ wishes B 1 5 (pos 122) ∷ asks 1 20 5 (pos 123) 0 ∷ at_deadline ∷ at 500 (sells 1 20 5 (pos 124)) ∷ []))
    (outcomes (Placed 0 1 ∷ Placed 5 0 ∷ Noted 0 ∷ Begun 500 ∷ Noted 0 ∷ Ended by_time 0 ∷ Placed 5 0 ∷ []))
    -- "held orders become live in arrival order, each executing first"
    ∷ row 11 (answer_after spread (began 5 (pos 120) ++ (sells 1 8 9 (pos 125) ∷ [])) (buyer 1 9 6 (pos 127))) (told (Ended by_order 1) (took 5 9 R (entry 8) 125 6 ∷ []) 2 0)
    -- "then live orders at or through the derived contra price": order 1, behind the held order 8
    ∷ row 12 (answer_after spread (market ++ (buyer 1 1 5 (pos 129) ∷ wishes B 7 2 (pos 130) ∷ buyer 1 8 5 (pos 129) ∷ quote 0 220 10 238 7 ∷ [])) at_deadline)
    (told (Ended by_time 2) (took 7 7 T legs 128 2 ∷ took 7 8 L legs 128 5 ∷ []) 1 0)
    -- "execute against the legs, .. best price first, then arrival"; "Noted (fill count)"
    ∷ row 13 (answer_after spread (buyer 1 1 5 (pos 128) ∷ buyer 1 2 5 (pos 130) ∷ buyer 1 3 5 (pos 130) ∷ quote 1 110 10 125 10 ∷ []) (quote 0 220 10 237 7))
    (told (Noted 2) (took 5 2 L legs 127 5 ∷ took 5 3 L legs 127 2 ∷ []) 2 0)
    -- "best price first": the lowest seller
    ∷ row 14 (answer_after spread (sells 1 1 5 (pos 97) ∷ sells 1 2 5 (pos 95) ∷ sells 1 3 5 (pos 96) ∷ quote 1 110 10 125 10 ∷ []) (quote 0 223 7 240 10))
    (told (Noted 2) (took 5 2 L legs 98 5 ∷ took 5 3 L legs 98 2 ∷ []) 2 0)
    -- "An order may ask for an auction": order 8 does not ("Own case")
    ∷ row 15 (answer_after spread (quote 0 220 10 240 10 ∷ quote 1 110 10 120 10 ∷ buys 10 (pos 100) ∷ []) (sells 1 8 15 (pos 100)))
    (told (Placed 0 2) (took 4 8 L legs 100 10 ∷ took 4 8 R (entry 7) 100 5 ∷ []) 1 0)
    -- "its units reach the class minimum": 5
    ∷ row 16 (outcomes_after (classed spread.legs 10 4 5 1 0) market (wishes B 7 4 (pos 130) ∷ wishes B 8 5 (pos 130) ∷ [])) (outcomes (Placed 0 1 ∷ Begun 500 ∷ []))
    -- "the strategy has at most the class's leg count": 3 of 2
    ∷ row 17 (outcomes_after (classed three 10 2 1 1 0) [] (began_against 5 5 (pos 130))) (outcomes (Placed 5 0 ∷ Placed 0 1 ∷ []))
    -- "at most": 3 of 3
    ∷ row 18 (outcomes_after (classed three 10 3 1 1 0) [] (began_against 5 5 (pos 130))) (outcomes (Placed 5 0 ∷ Begun 500 ∷ []))
    -- "its limit is strictly better than every other open same-side order outside the queue"
    ∷ row 19 (outcomes_after spread (market ++ (buyer 1 1 5 (pos 125) ∷ []))
    (wishes B 7 5 (pos 125) ∷ wishes B 8 5 (pos 126) ∷ wishes B 9 5 (pos 126) ∷ buyer 1 10 5 (pos 126) ∷ wishes B 11 5 (pos 126) ∷ []))
    (outcomes (Placed 5 0 ∷ Begun 500 ∷ Joined 10 ∷ Placed 5 0 ∷ Placed 5 0 ∷ []))
    -- "a best contra price (derived, or live order)": no held order, no response
    ∷ row 20 (outcomes_after spread (began_against 5 5 (pos 130) ++ (sells 1 2 5 (pos 130) ∷ asks 1 20 5 (pos 130) 0 ∷ []))
    (wishes B 8 5 (pos 129) ∷ cancels 1 1 ∷ wishes B 9 5 (pos 129) ∷ []))
    (outcomes (Joined 10 ∷ Noted 0 ∷ Placed 5 0 ∷ []))
    -- "exists": national quotes give none
    ∷ row 21 (outcomes_after spread nationals (wishes B 7 5 (pos 130) ∷ [])) (outcomes (Placed 5 0 ∷ []))
    -- "that the limit reaches or misses by at most the class distance": 10 of 130
    ∷ row 22 (outcomes_after spread market (wishes B 7 5 (pos 119) ∷ wishes B 8 5 (pos 120) ∷ [])) (outcomes (Placed 5 0 ∷ Begun 500 ∷ []))
    -- "misses by at most the class distance": a seller, 10 of 95
    ∷ row 23 (outcomes_after spread market (wishes S 7 5 (pos 106) ∷ wishes S 8 5 (pos 105) ∷ [])) (outcomes (Placed 5 0 ∷ Begun 500 ∷ []))
    ∷ []

-- "Order and auction life", in an auction and at its end
abbrev pub auction_rows : List Row
auction_rows =
    -- "begins one, ending at its time plus the interval"; "A clock message at or after the deadline ends it"
    row 24 (outcomes_after spread market (begin 5 (pos 130) ∷ sent clock 1_499 ∷ sent clock 1_500 ∷ [])) (outcomes (Begun 1_500 ∷ Noted 0 ∷ Ended by_time 1 ∷ []))
    -- "During an auction nothing else trades": order 1 with the legs or with order 8
    ∷ row 25 (outcomes_after spread (market ++ (buyer 1 1 5 (pos 129) ∷ wishes B 7 5 (pos 130) ∷ [])) (quote 0 220 10 234 10 ∷ sells 1 8 5 (pos 129) ∷ []))
    (outcomes (Noted 0 ∷ Placed 5 0 ∷ []))
    -- "Same side, better than the initiator's limit: the auction ends, that order held"
    ∷ row 26 (answer_after spread (began_against 5 5 (pos 129)) (wishes B 8 5 (pos 130))) (told (Ended by_order 1) (took 3 8 R (entry 1) 130 5 ∷ []) 1 0)
    -- "that order held": it asks and is eligible, and begins none
    ∷ row 27 (outcomes_after spread (began_against 5 5 (pos 129)) (wishes B 8 5 (pos 130) ∷ asks 1 20 5 (pos 130) 0 ∷ [])) (outcomes (Ended by_order 1 ∷ Refused 40 ∷ []))
    -- "better than the initiator's limit": a lower one for sellers, asking or not
    ∷ row 28 (outcomes_after spread market (wishes S 7 5 (pos 96) ∷ sells 1 8 5 (pos 96) ∷ sells 1 9 5 (pos 95) ∷ []))
    (outcomes (Begun 500 ∷ Placed 5 0 ∷ Ended by_order 1 ∷ []))
    -- "Same side, equal or worse, asking and eligible: it joins the queue"; "Joined (units in the queue)"
    ∷ row 29 (outcomes_after spread (began 5 (pos 130)) (wishes B 8 6 (pos 129) ∷ wishes B 9 4 (pos 130) ∷ [])) (outcomes (Joined 11 ∷ Joined 15 ∷ []))
    -- "All others are held": one does not ask, one is not eligible, one is of the other side
    ∷ row 30 (outcomes_after spread (began 5 (pos 130)) (buyer 1 8 5 (pos 129) ∷ wishes B 9 5 (pos 119) ∷ wishes S 10 5 (pos 95) ∷ [])) (outcomes (replicate 3 (Placed 5 0)))
    -- "same-side ones never trade"; "all responses expire"
    ∷ row 31 (answer_after spread (began_against 2 9 (pos 130) ++ (bids 1 20 4 (pos 125) ∷ asks 2 21 3 (pos 129) 0 ∷ [])) at_deadline)
    (told (Ended by_time 2) (took 5 7 N (entry 21) 129 3 ∷ took 5 7 C (entry 1) 130 2 ∷ []) 1 0)
    -- "A response may be modified in side, price and units, taking the new arrival number and keeping its account"
    ∷ row 32 (answer_after spread (began_against 1 4 (pos 130)
    ++ (bids 1 20 9 (pos 100) ∷ asks 1 21 3 (pos 128) 0 ∷ asks 2 22 5 (pos 129) 0 ∷ changes S 20 1 3 (pos 128) ∷ changes S 22 1 1 (pos 127) ∷ [])) at_deadline)
    (told (Ended by_time 3) (took 8 7 N (entry 22) 127 1 ∷ took 8 7 C (entry 21) 128 2 ∷ took 8 7 C (entry 20) 128 1 ∷ []) 1 0)
    -- "A local quote after which the derived price on the initiator's own side is strictly better than its limit ends the auction": not 125, nor a national bid of 180
    ∷ row 33 (outcomes_after spread (began 5 (pos 125) ++ (asks 1 20 3 (pos 125) 0 ∷ []))
    (quote 0 250 10 260 10 ∷ nbbo 0 300 310 ∷ nbbo 1 110 120 ∷ quote 0 251 10 261 10 ∷ []))
    (outcomes (Noted 0 ∷ Noted 0 ∷ Noted 0 ∷ Ended by_legs 1 ∷ []))
    -- "strictly better than its limit": for a seller 99, not 100
    ∷ row 34 (outcomes_after spread market (wishes S 7 5 (pos 100) ∷ quote 0 200 10 210 10 ∷ quote 0 199 10 209 10 ∷ [])) (outcomes (Begun 500 ∷ Noted 0 ∷ Ended by_legs 0 ∷ []))
    -- "after which the derived price .. is strictly better": 95, as before the quote
    ∷ row 35 (outcomes_after (classed spread.legs 40 4 1 1 0) market (wishes B 7 5 (pos 94) ∷ nbbo 0 220 240 ∷ quote 0 220 10 240 10 ∷ []))
    (outcomes (Begun 500 ∷ Noted 0 ∷ Ended by_legs 0 ∷ []))
    -- "the derived price on the initiator's own side": none without an ask of leg 1
    ∷ row 36 (outcomes_after spread (began 5 (pos 130)) (quote 1 110 10 0 0 ∷ [])) (outcomes (Noted 0 ∷ []))
    -- "At the end queue orders execute by price, then arrival"
    ∷ row 37 (answer_after spread (began_against 12 5 (pos 133) ++ (wishes B 8 5 (pos 131) ∷ wishes B 9 5 (pos 132) ∷ wishes B 10 5 (pos 132) ∷ [])) at_deadline)
    (told (Ended by_time 3) (took 6 7 C (entry 1) 130 5 ∷ took 6 9 C (entry 1) 130 5 ∷ took 6 10 C (entry 1) 130 2 ∷ []) 2 0)
    -- "by price": the lowest seller
    ∷ row 38 (answer_after spread (buyer 1 1 12 (pos 130) ∷ wishes S 7 5 (pos 126) ∷ wishes S 8 5 (pos 128) ∷ wishes S 9 5 (pos 127) ∷ []) at_deadline)
    (told (Ended by_time 3) (took 5 7 C (entry 1) 130 5 ∷ took 5 9 C (entry 1) 130 5 ∷ took 5 8 C (entry 1) 130 2 ∷ []) 1 0)
    -- "remainders are held": order 7 keeps its arrival, before order 8
    ∷ row 39 (answer_after spread (began_against 3 8 (pos 130) ++ (buyer 1 8 5 (pos 130) ∷ at_deadline ∷ [])) (at 500 (sells 1 9 6 (pos 130))))
    (told (Placed 0 2) (took 5 9 R (entry 7) 130 5 ∷ took 5 9 R (entry 8) 130 1 ∷ []) 1 0)
    ∷ []

-- "Execution"
abbrev pub execution_rows : List Row
execution_rows =
    -- "Open to a queue order: legs, live and held opposite orders, opposite responses"; "rank L, legs; C, customer orders and responses; N, non-customer ones"
    row 40 (answer_after spread (market ++ (sells 1 1 2 (pos 130) ∷ wishes B 7 20 (pos 130) ∷ sells 2 8 3 (pos 130) ∷ asks 1 20 4 (pos 130) 0 ∷ [])) at_deadline)
    (told (Ended by_time 4) (took 7 7 L legs 130 10 ∷ took 7 7 C (entry 1) 130 2 ∷ took 7 7 C (entry 20) 130 4 ∷ took 7 7 N (entry 8) 130 3 ∷ []) 1 0)
    -- "Legs are late if their price is better, for the order, than the same derived price (bid or ask) when the auction began"
    ∷ row 41 (answer_after spread (began 30 (pos 130) ++ (asks 1 20 5 (pos 128) 0 ∷ asks 2 21 6 (pos 128) 0 ∷ quote 0 220 10 238 10 ∷ [])) at_deadline)
    (told (Ended by_time 3) (took 7 7 C (entry 20) 128 5 ∷ took 7 7 N (entry 21) 128 6 ∷ took 7 7 T legs 128 10 ∷ []) 1 0)
    -- "for the order": a seller; "Price by price, best first"
    ∷ row 42 (answer_after spread (market ++ (wishes S 7 30 (pos 95) ∷ bids 2 20 5 (pos 96) ∷ quote 0 222 10 240 10 ∷ [])) at_deadline)
    (told (Ended by_time 2) (took 6 7 T legs 97 10 ∷ took 6 7 N (entry 20) 96 5 ∷ []) 1 0)
    -- "or none existed then"
    ∷ row 43 (answer_after spread (began_against 5 30 (pos 130) ++ market) at_deadline) (told (Ended by_time 2) (took 5 7 C (entry 1) 130 5 ∷ took 5 7 T legs 130 10 ∷ []) 1 0)
    -- "else all their units are L": the same price (more units in row 77)
    ∷ row 44 (answer_after spread (began 30 (pos 130) ++ (asks 1 20 5 (pos 130) 0 ∷ quote 0 220 10 240 10 ∷ [])) at_deadline)
    (told (Ended by_time 2) (took 6 7 L legs 130 10 ∷ took 6 7 C (entry 20) 130 5 ∷ []) 1 0)
    -- "else": a worse price
    ∷ row 45 (answer_after spread (began 30 (pos 132) ++ (asks 1 20 5 (pos 132) 0 ∷ quote 0 220 10 242 10 ∷ [])) at_deadline)
    (told (Ended by_time 2) (took 6 7 L legs 132 10 ∷ took 6 7 C (entry 20) 132 5 ∷ []) 1 0)
    -- "Outside an auction: L, then rank R, orders by arrival"
    ∷ row 46 (answer_after spread (buyer 2 1 3 (pos 128) ∷ buyer 1 2 9 (pos 128) ∷ []) (sells 1 3 5 (pos 128)))
    (told (Placed 0 2) (took 3 3 R (entry 1) 128 3 ∷ took 3 3 R (entry 2) 128 2 ∷ []) 1 0)
    -- "Placed (units open, fill count)"
    ∷ row 47 (answer_after spread market (buys 15 (pos 130))) (told (Placed 5 1) (took 3 7 L legs 130 10 ∷ []) 1 0)
    ∷ []

-- "Where a message is turned back"
abbrev pub turned_back_rows : List Row
turned_back_rows =
    -- "First that applies, reading down": number by number over all legs, two at once each time
    row 48 (openings (usual (leg 6 2 50 B 1 5 ∷ []) ∷ usual (leg 7 2 0 B 1 5 ∷ leg 6 2 50 S 1 5 ∷ []) ∷ usual (leg 7 2 0 B 1 5 ∷ leg 7 2 0 S 1 5 ∷ [])
    ∷ usual (leg 6 2 0 B 1 5 ∷ leg 6 2 0 S 4 5 ∷ []) ∷ pair 6 67 1 S 4 5 ∷ classed (leg 6 2 0 B 1 5 ∷ leg 6 2 5 S 1 7 ∷ []) 10 1 1 1 0 ∷ []))
    (numbers (1 ∷ 2 ∷ 3 ∷ 4 ∷ 5 ∷ 6 ∷ []))
    -- "7 a setting outside: .. distance 0 to 999, most legs 2 to 4, minimum 1 to 999,999, .. first number and time 0 to 10^15"
    ∷ row 49 (openings (classed three 1_000 4 1 1 0 ∷ classed three 10 1 1 1 0 ∷ classed three 10 5 1 1 0 ∷ classed three 10 4 0 1 0 ∷ classed three 10 4 1_000_000 1 0
    ∷ classed three 10 4 1 1_000_000_000_000_001 0 ∷ classed three 10 4 1 1 1_000_000_000_000_001
    ∷ classed three 999 2 999_999 1_000_000_000_000_000 1_000_000_000_000_000 ∷ []))
    (numbers (7 ∷ 7 ∷ 7 ∷ 7 ∷ 7 ∷ 7 ∷ 7 ∷ 0 ∷ []))
    -- "interval 1 to 1,000, .. amounts 0 to 999"
    ∷ row 50 (openings (in_class three 0 10 4 10 15 30 1 1 0 ∷ in_class three 1_001 10 4 10 15 30 1 1 0 ∷ in_class three 1 10 4 1_000 15 30 1 1 0
    ∷ in_class three 1 10 4 10 1_000 30 1 1 0 ∷ in_class three 1 10 4 10 15 1_000 1 1 0 ∷ in_class three 1 0 4 999 999 999 1 0 0 ∷ in_class three 1_000 0 4 0 0 0 1 0 0 ∷ []))
    (numbers (7 ∷ 7 ∷ 7 ∷ 7 ∷ 7 ∷ 0 ∷ 0 ∷ []))
    -- "10 fill list under 2,000 places; 11 time above 10^15 ..; 12 next number above 10^15; 13 deadline reached and not a clock": all at once, then fewer
    ∷ row 51 (outcomes_after (classed spread.legs 10 4 1 999_999_999_999_998 0) (market ++ (begin 5 (pos 130) ∷ []))
    (record { message = record { time = 1_000_000_000_000_001; body = cancel 9 1 }; room = 1_999 } ∷ at 1_000_000_000_000_001 (cancels 9 1) ∷ at 1_500 (cancels 9 1) ∷ []))
    (outcomes (Refused 10 ∷ Refused 11 ∷ Refused 12 ∷ []))
    -- "11 .. before the last accepted time ..; 13 deadline reached and not a clock": before 20 to 50
    ∷ row 52 (outcomes_after spread (market ++ (begin 5 (pos 130) ∷ [])) (at 999 (cancels 9 1) ∷ at 1_499 (cancels 9 1)
    ∷ map (at 1_500) (quote 2 1 1 2 1 ∷ nbbo 2 1 2 ∷ buys 0 (pos 1) ∷ asks 0 20 1 (pos 1) 0 ∷ changes S 20 1 1 (pos 1) ∷ cancels 9 1 ∷ reduces 9 1 1 ∷ [])))
    (outcomes (Refused 11 ∷ Refused 50 ∷ replicate 7 (Refused 13)))
    -- "11 time above 10^15 or before the last accepted time (at first the opening's)"; a first number of 10^15 is taken once
    ∷ row 53 (outcomes_after (classed spread.legs 10 4 1 1_000_000_000_000_000 5) []
    (sent clock 4 ∷ sent clock 1_000_000_000_000_001 ∷ sent clock 1_000_000_000_000_000 ∷ sent clock 1_000_000_000_000_000 ∷ []))
    (outcomes (Refused 11 ∷ Refused 11 ∷ Noted 0 ∷ Refused 12 ∷ []))
    -- "20 no such leg; 21 price or size; 22 both local sides, bid not below ask": all at once, then fewer; one side alone
    ∷ row 54 (outcomes_after spread [] (quote 2 5 0 4 1 ∷ quote 0 5 0 4 1 ∷ quote 0 1 1 1 1 ∷ quote 0 5 1 0 0 ∷ []))
    (outcomes (Refused 20 ∷ Refused 21 ∷ Refused 22 ∷ Noted 0 ∷ []))
    -- "Local sides are price 1 to 999,999 with size 1 to 999,999"
    ∷ row 55 (outcomes_after spread []
    (quote 0 1 1 999_999 999_999 ∷ quote 0 1 1 1_000_000 1 ∷ quote 0 1 1 2 1_000_000
    ∷ sent (local (record { leg = 0; bid_size = 1; bid = negsuc 0; ask = pos 1; ask_size = 1 })) 0 ∷ []))
    (outcomes (Noted 0 ∷ replicate 3 (Refused 21)))
    -- "National sides are prices 1 to 999,999 alone, 0 for absent, and may lock or cross"
    ∷ row 56 (outcomes_after spread []
    (nbbo 2 1_000_000 1 ∷ nbbo 0 1_000_000 1 ∷ sent (national (record { leg = 0; bid = pos 1; ask = negsuc 0 })) 0 ∷ nbbo 0 999_999 0 ∷ nbbo 0 6 5 ∷ []))
    (outcomes (Refused 20 ∷ Refused 21 ∷ Refused 21 ∷ Noted 0 ∷ Noted 0 ∷ []))
    -- "30 side, account, limit, or id or participant 0, or units not 1 to 999,999" (the limit in row 5)
    ∷ row 57 (outcomes_after spread []
    (no_wish (terms 67 1 7 1 (pos 1)) ∷ buyer 0 7 1 (pos 1) ∷ buyer 3 7 1 (pos 1) ∷ buyer 1 0 1 (pos 1) ∷ buyer 1 7 0 (pos 1) ∷ buyer 1 7 1_000_000 (pos 1)
    ∷ no_wish (record { side = B; account = 1; id = 7; participant = 0; units = 1; price = pos 1 }) ∷ buyer 2 7 999_999 (pos 1) ∷ []))
    (outcomes (replicate 7 (Refused 30) ++ (Placed 999_999 0 ∷ [])))
    -- "32 32 orders open": the 32nd passes
    ∷ row 58 (outcomes_after spread (waiting 31) (buyer 1 40 1 (pos 1) ∷ buyer 1 41 1 (pos 1) ∷ cancels 40 1 ∷ buyer 1 41 1 (pos 1) ∷ []))
    (outcomes (Placed 1 0 ∷ Refused 32 ∷ Noted 0 ∷ Placed 1 0 ∷ []))
    -- "30 ..; 31 id open as order or response; 32 ..; 33 filter": all at once, then fewer
    ∷ row 59 (outcomes_after spread (nationals ++ waiting 32)
    (buyer 3 1 1 (pos 200) ∷ buyer 1 1 1 (pos 200) ∷ buyer 1 40 1 (pos 200) ∷ cancels 1 1 ∷ buyer 1 40 1 (pos 200) ∷ []))
    (outcomes (Refused 30 ∷ Refused 31 ∷ Refused 32 ∷ Noted 0 ∷ Refused 33 ∷ []))
    -- "43 new: 32 open": the 32nd passes, and a modification; orders are not counted
    ∷ row 60 (outcomes_after spread (began_against 5 5 (pos 130) ++ answering 31)
    (asks 1 20 1 (pos 200) 0 ∷ asks 1 21 1 (pos 200) 0 ∷ changes S 20 1 2 (pos 201) ∷ buyer 1 8 5 (pos 129) ∷ buyer 1 20 5 (pos 129) ∷ []))
    (outcomes (Noted 0 ∷ Refused 43 ∷ Noted 0 ∷ Placed 5 0 ∷ Refused 31 ∷ []))
    -- "40 no auction; 41 as 30, over the fields used; 42 new: id open ..": all at once
    ∷ row 61 (outcomes_after spread (sells 1 1 5 (pos 130) ∷ []) (asks 3 1 1 (pos 200) 0 ∷ changes 67 1 1 1 (pos 200) ∷ [])) (outcomes (Refused 40 ∷ Refused 40 ∷ []))
    -- "41 ..; 42 ..; 43 ..": all at once, then fewer
    ∷ row 62 (outcomes_after spread (began_against 5 5 (pos 130) ++ answering 32) (asks 3 1 1 (pos 200) 0 ∷ asks 1 1 1 (pos 200) 0 ∷ asks 1 20 1 (pos 200) 0 ∷ []))
    (outcomes (Refused 41 ∷ Refused 42 ∷ Refused 43 ∷ []))
    -- "42 .. modify: no response of that id and participant": 41 before it, another participant, an order
    ∷ row 63 (outcomes_after spread (began_against 5 5 (pos 130) ++ (asks 1 20 1 (pos 200) 0 ∷ []))
    (changes 67 20 2 1 (pos 200) ∷ changes S 20 2 1 (pos 200) ∷ changes S 1 1 1 (pos 200) ∷ changes S 20 1 1 (pos 200) ∷ []))
    (outcomes (Refused 41 ∷ Refused 42 ∷ Refused 42 ∷ Noted 0 ∷ []))
    -- "50 no open order of that id and participant": a response, another participant twice, a live order
    ∷ row 64 (outcomes_after spread (began_against 5 5 (pos 130) ++ (asks 1 20 1 (pos 200) 0 ∷ [])) (cancels 20 1 ∷ cancels 7 2 ∷ cancels 1 2 ∷ cancels 1 1 ∷ []))
    (outcomes (Refused 50 ∷ Refused 50 ∷ Refused 50 ∷ Noted 0 ∷ []))
    ∷ []

-- "Tape", and the table's last row
abbrev pub tape_rows : List Row
tape_rows =
    -- "60 tape under 40 .. bytes, or a section that is not empty overlapping the header or the other section, or running past the end"; the last three pass
    row 65 (tapes (replicate 39 0 ∷ (header 2 39 0 0 ++ packed_legs) ∷ (header 2 41 0 0 ++ packed_legs) ∷ (header 2 40 1 87 ++ packed_legs ++ blank 7) ∷ (header 0 0 1 41 ++ blank 7)
    ∷ header 0 41 0 0 ∷ (header 2 40 1 88 ++ packed_legs ++ blank 7) ∷ (header 2 76 1 40 ++ blank 7 ++ packed_legs) ∷ []))
    (numbers (60 ∷ 60 ∷ 60 ∷ 60 ∷ 60 ∷ 0 ∷ 0 ∷ 0 ∷ []))
    -- "61 any message's kind not below": the last message's; 60 before it; 8 is a kind since M-105
    ∷ row 66 (tapes ((header 0 0 3 40 ++ blank 7 ++ blank 9) ∷ (header 0 0 2 40 ++ blank 7 ++ blank 9)
    ∷ (header 0 0 2 40 ++ blank 7 ++ blank 0) ∷ (header 0 0 2 40 ++ blank 7 ++ blank 1) ∷ (header 0 0 2 40 ++ blank 7 ++ blank 8) ∷ []))
    (numbers (60 ∷ 61 ∷ 61 ∷ 0 ∷ 0 ∷ []))
    -- "both over the whole tape, before the opening and all above": no legs
    ∷ row 67 (print_of (header 0 0 2 40 ++ blank 7 ++ blank 9)) (lines (refused_line 0 61 ∷ []))
    -- "before the opening": 1 where the kinds are good
    ∷ row 68 (print_of (header 0 0 2 40 ++ blank 7 ++ blank 1)) (lines (refused_line 0 1 ∷ []))
    -- "A table of seven rows says which fields each kind uses", and M-105 that of kind 8
    ∷ row 69 (reading_of (header 2 40 8 88 ++ packed_legs ++ full 1 ++ full 2 ++ full 3 ++ full 4 ++ full 5 ++ full 6 ++ full 7 ++ full 8))
    (reading (reads spread (map timed (local (record { leg = 3; bid_size = 7; bid = negsuc 7; ask = pos 9; ask_size = 10 })
    ∷ national (record { leg = 3; bid = negsuc 7; ask = pos 9 }) ∷ order full_terms true ∷ response full_terms
    ∷ modify (record { side = B; id = 5; participant = 6; units = 7; price = negsuc 7 }) ∷ cancel 5 6 ∷ clock ∷ reduce 5 6 7 ∷ []))))
    -- "Own case"
    ∷ row 70 (print_of own_case) (lines (title_line ∷ fill_line (took 4 8 L legs 100 10) ∷ fill_line (took 4 8 R (entry 7) 100 5) ∷ average_line (average_of 8 (pos 100) 0) ∷ refused_line 5 50 ∷ last_line 1 0 ∷ []))
    ∷ []

-- M-101, "Fill records in arrival order"
abbrev pub arrival_rows : List Row
arrival_rows =
    -- "Records of one order, price and rank now stand by the contra's arrival number": 24, 22 and 23, which was modified; by id or size 22 would be first or last, by its first place 23 first
    row 71 (answer_after spread (began_against 1 6 (pos 130)
    ++ (asks 1 23 2 (pos 128) 0 ∷ asks 1 24 1 (pos 128) 0 ∷ asks 1 22 4 (pos 128) 0 ∷ changes S 23 1 3 (pos 128) ∷ [])) at_deadline)
    (told (Ended by_time 3) (took 7 7 C (entry 24) 128 1 ∷ took 7 7 C (entry 22) 128 3 ∷ took 7 7 C (entry 23) 128 2 ∷ []) 1 0)
    ∷ []

-- M-102, "Average price with its remainder"
abbrev pub average_rows : List Row
average_rows =
    -- "A sum of -7 over 2 units is -4 remainder 1": a unit at -4 and one at -3
    row 72 (averages_after spread negatives (buyer 1 7 2 (pos 0))) (averaged (average_of 7 (negsuc 3) 1 ∷ []))
    -- "over the records that name it as order": order 2 is only a contra there
    ∷ row 73 (average_after spread negatives (buyer 1 7 2 (pos 0)) 2) (average_is none)
    -- "An order without fills in that message has no average"
    ∷ row 74 (average_after spread negatives (buyer 1 7 2 (negsuc 9)) 7) (average_is none)
    -- "for each id in their order column, by first record": 7 before 5, which came later
    ∷ row 75 (averages_after spread (began_against 5 2 (pos 130) ++ (wishes B 5 3 (pos 130) ∷ asks 1 20 1 (pos 127) 0 ∷ [])) at_deadline)
    (averaged (average_of 7 (pos 128) 1 ∷ average_of 5 (pos 130) 0 ∷ []))
    ∷ []

-- M-103, "Leg size that came during the auction"
abbrev pub leg_size_rows : List Row
leg_size_rows =
    -- "only the smallest number of units it has shown since the start is rank L, and the remaining units are T": 10 at the start, then 15
    row 76 (answer_after spread (began 30 (pos 130) ++ fifteen) at_deadline) (told (Ended by_time 2) (took 6 7 L legs 130 10 ∷ took 6 7 T legs 130 5 ∷ []) 1 0)
    -- rank T at that price is behind C and N
    ∷ row 77 (answer_after spread (began 30 (pos 130) ++ (asks 1 20 5 (pos 130) 0 ∷ asks 2 21 6 (pos 130) 0 ∷ fifteen)) at_deadline)
    (told (Ended by_time 4) (took 8 7 L legs 130 10 ∷ took 8 7 C (entry 20) 130 5 ∷ took 8 7 N (entry 21) 130 6 ∷ took 8 7 T legs 130 5 ∷ []) 1 0)
    -- "the smallest number of units it has shown": 10, 4, and 10 again
    ∷ row 78 (answer_after spread (began 30 (pos 130) ++ (asks 1 20 5 (pos 130) 0 ∷ quote 0 220 10 240 4 ∷ quote 0 220 10 240 10 ∷ [])) at_deadline)
    (told (Ended by_time 3) (took 7 7 L legs 130 4 ∷ took 7 7 C (entry 20) 130 5 ∷ took 7 7 T legs 130 6 ∷ []) 1 0)
    -- "If the price moved away and came back, that number is 0": 130, 131, and 130 again
    ∷ row 79 (answer_after spread (began 30 (pos 130) ++ (asks 1 20 5 (pos 130) 0 ∷ quote 0 220 10 241 10 ∷ quote 0 220 10 240 10 ∷ [])) at_deadline)
    (told (Ended by_time 2) (took 7 7 C (entry 20) 130 5 ∷ took 7 7 T legs 130 10 ∷ []) 1 0)
    -- none for a while, one contract of 2, is away too
    ∷ row 80 (answer_after (pair 6 B 1 S 2 5)
    (quote 0 220 10 240 10 ∷ quote 1 50 8 60 9 ∷ wishes B 7 30 (pos 140) ∷ asks 1 20 5 (pos 140) 0 ∷ quote 1 50 1 60 9 ∷ quote 1 50 8 60 9 ∷ []) at_deadline)
    (told (Ended by_time 2) (took 7 7 C (entry 20) 140 5 ∷ took 7 7 T legs 140 4 ∷ []) 1 0)
    -- "since the start": the quote that ends the auction adds 5 units, all late
    ∷ row 81 (legs_offered spread (began 30 (pos 122) ++ (quote 0 239 10 240 15 ∷ [])) (quote 1 110 15 111 10)) (numbers (10 ∷ 5 ∷ []))
    -- or leaves 4, none of them late
    ∷ row 82 (legs_offered spread (began 30 (pos 122) ++ (quote 0 239 10 240 15 ∷ [])) (quote 1 110 4 111 10)) (numbers (4 ∷ 0 ∷ []))
    -- "What one queue order takes from rank L is gone for the next": 10 of 15, of which order 7 takes 4
    ∷ row 83 (answer_after spread (began 4 (pos 130) ++ (wishes B 9 20 (pos 130) ∷ asks 1 20 5 (pos 130) 0 ∷ fifteen)) at_deadline)
    (told (Ended by_time 4) (took 8 7 L legs 130 4 ∷ took 8 9 L legs 130 6 ∷ took 8 9 C (entry 20) 130 5 ∷ took 8 9 T legs 130 5 ∷ []) 1 0)
    -- "Better and worse prices rank as before": a worse one with more units
    ∷ row 84 (answer_after spread (began 30 (pos 132) ++ (asks 1 20 5 (pos 132) 0 ∷ quote 0 220 10 242 15 ∷ quote 1 110 15 125 10 ∷ [])) at_deadline)
    (told (Ended by_time 2) (took 7 7 L legs 132 15 ∷ took 7 7 C (entry 20) 132 5 ∷ []) 1 0)
    -- "the derived price": a seller's is the bid
    ∷ row 85 (answer_after spread (market ++ (wishes S 7 30 (pos 95) ∷ bids 1 20 5 (pos 95) ∷ quote 0 220 15 240 10 ∷ quote 1 110 10 125 15 ∷ [])) at_deadline)
    (told (Ended by_time 3) (took 7 7 L legs 95 10 ∷ took 7 7 C (entry 20) 95 5 ∷ took 7 7 T legs 95 5 ∷ []) 1 0)
    ∷ []

-- M-104, "Third Fridays by formula"
abbrev pub third_friday_rows : List Row
third_friday_rows =
    -- "Every date is accepted or refused as it was": the first month, after the leap day of 2000, a month that begins on a Friday, a year without a leap day, the last month
    row 86 (openings (dated 0 1 21 ∷ dated 0 3 17 ∷ dated 0 12 15 ∷ dated 1 3 16 ∷ dated 99 12 18 ∷ [])) (numbers (replicate 5 0))
    -- the Fridays before and after; a day later, as if 2000 had no leap day; the fourth Friday of a month that begins on one; and in January the day of February
    ∷ row 87 (openings (dated 0 1 14 ∷ dated 0 1 28 ∷ dated 0 3 18 ∷ dated 0 12 22 ∷ dated 0 1 18 ∷ [])) (numbers (replicate 5 3))
    ∷ []

-- M-105, "Cancel and reduce during an auction"
abbrev pub reduce_rows : List Row
reduce_rows =
    -- "Desks may now pull or shrink a queued order"; "Every other cancel or reduce is Noted": order 8 is pulled, order 7 shrunk, as the units in the queue show
    row 88 (outcomes_after spread (began 5 (pos 130)) (wishes B 8 6 (pos 129) ∷ cancels 8 1 ∷ wishes B 9 4 (pos 129) ∷ reduces 7 1 2 ∷ wishes B 10 1 (pos 129) ∷ []))
    (outcomes (Joined 11 ∷ Noted 0 ∷ Joined 9 ∷ Noted 0 ∷ Joined 7 ∷ []))
    -- "If the initiator is cancelled, the next queue order by price, then arrival, becomes the initiator": order 9 at 128, though order 8 came before it; its limit decides which order ends the auction
    ∷ row 89 (outcomes_after spread (began 5 (pos 130) ++ (wishes B 8 5 (pos 127) ∷ wishes B 9 5 (pos 128) ∷ wishes B 10 5 (pos 128) ∷ []))
    (buyer 1 11 5 (pos 129) ∷ cancels 7 1 ∷ buyer 1 12 5 (pos 128) ∷ buyer 1 13 5 (pos 129) ∷ []))
    (outcomes (Placed 5 0 ∷ Noted 0 ∷ Placed 5 0 ∷ Ended by_order 0 ∷ []))
    -- and which local quote: a derived bid of 129, not 128
    ∷ row 90 (outcomes_after spread (began 5 (pos 130) ++ (wishes B 8 5 (pos 127) ∷ wishes B 9 5 (pos 128) ∷ [])) (cancels 7 1 ∷ quote 0 253 10 263 10 ∷ quote 0 254 10 264 10 ∷ []))
    (outcomes (Noted 0 ∷ Noted 0 ∷ Ended by_legs 0 ∷ []))
    -- for a seller the lowest is next: order 9 at 97
    ∷ row 91 (outcomes_after spread (market ++ (wishes S 7 5 (pos 95) ∷ wishes S 8 5 (pos 98) ∷ wishes S 9 5 (pos 97) ∷ [])) (cancels 7 1 ∷ sells 1 10 5 (pos 97) ∷ sells 1 11 5 (pos 96) ∷ []))
    (outcomes (Noted 0 ∷ Placed 5 0 ∷ Ended by_order 0 ∷ []))
    -- "with the same deadline": 500, though the cancel came at 300
    ∷ row 92 (outcomes_after spread (began 5 (pos 130) ++ (wishes B 8 5 (pos 129) ∷ [])) (at 300 (cancels 7 1) ∷ sent clock 499 ∷ sent clock 500 ∷ [])) (outcomes (Noted 0 ∷ Noted 0 ∷ Ended by_time 0 ∷ []))
    -- "and starting leg price", with the least units that it has shown: 10, 4 and 10 again
    ∷ row 93 (answer_after spread (began 5 (pos 130) ++ (wishes B 8 30 (pos 130) ∷ quote 0 220 10 240 4 ∷ quote 0 220 10 240 10 ∷ cancels 7 1 ∷ [])) at_deadline)
    (told (Ended by_time 2) (took 8 8 L legs 130 4 ∷ took 8 8 T legs 130 6 ∷ []) 1 0)
    -- a held order that is better than the new initiator ends nothing, nor does a derived bid that is, 124 to 120, until a local quote comes
    ∷ row 94 (outcomes_after spread (quote 0 240 10 244 10 ∷ quote 1 114 10 116 10 ∷ wishes B 7 5 (pos 130) ∷ wishes B 8 5 (pos 120) ∷ buyer 1 9 5 (pos 128) ∷ [])
    (cancels 7 1 ∷ sent clock 0 ∷ nbbo 0 240 244 ∷ quote 0 240 10 244 10 ∷ []))
    (outcomes (Noted 0 ∷ Noted 0 ∷ Noted 0 ∷ Ended by_legs 0 ∷ []))
    -- "If none is left, the auction ends, responses expire and held orders go live as usual; the outcome is Ended with a fourth cause, cancel": order 9 meets order 8, and response 20 nobody
    ∷ row 95 (answer_after spread (began 5 (pos 122) ++ (asks 1 20 5 (pos 105) 0 ∷ sells 1 8 9 (pos 100) ∷ buyer 1 9 6 (pos 110) ∷ [])) (cancels 7 1)) (told (Ended by_cancel 1) (took 7 9 R (entry 8) 100 6 ∷ []) 1 0)
    -- "as usual": live orders meet the legs too
    ∷ row 96 (answer_after spread (market ++ (buyer 1 1 5 (pos 121) ∷ wishes B 7 2 (pos 122) ∷ quote 0 220 10 230 10 ∷ [])) (cancels 7 1)) (told (Ended by_cancel 1) (took 6 1 L legs 120 5 ∷ []) 0 0)
    -- "If none is left": the last of two; then no auction is pending
    ∷ row 97 (outcomes_after spread (began 5 (pos 130) ++ (wishes B 8 5 (pos 129) ∷ [])) (cancels 7 1 ∷ cancels 8 1 ∷ asks 1 20 1 (pos 200) 0 ∷ cancels 8 1 ∷ []))
    (outcomes (Noted 0 ∷ Ended by_cancel 0 ∷ Refused 40 ∷ Refused 50 ∷ []))
    -- "A reduced order keeps its arrival number": in the queue order 7 goes before order 8 at the same price
    ∷ row 98 (answer_after spread (began_against 7 8 (pos 130) ++ (wishes B 8 5 (pos 130) ∷ reduces 7 1 5 ∷ [])) at_deadline)
    (told (Ended by_time 2) (took 5 7 C (entry 1) 130 5 ∷ took 5 8 C (entry 1) 130 2 ∷ []) 1 0)
    -- "Orders outside the queue may be reduced too": live order 1 goes before order 2
    ∷ row 99 (answer_after spread (buyer 1 1 5 (pos 120) ∷ buyer 1 2 5 (pos 120) ∷ reduces 1 1 3 ∷ []) (sells 1 9 4 (pos 120)))
    (told (Placed 0 2) (took 4 9 R (entry 1) 120 3 ∷ took 4 9 R (entry 2) 120 1 ∷ []) 1 0)
    -- a held order stays held, and is open to the queue with "the new open units"
    ∷ row 100 (answer_after spread (began_against 2 9 (pos 130) ++ (sells 2 8 5 (pos 130) ∷ reduces 8 1 3 ∷ [])) at_deadline)
    (told (Ended by_time 2) (took 5 7 C (entry 1) 130 2 ∷ took 5 7 N (entry 8) 130 3 ∷ []) 1 0)
    -- a reduce below the class minimum, 5, leaves the auction as it is
    ∷ row 101 (outcomes_after (classed spread.legs 10 4 5 1 0) market (wishes B 7 5 (pos 130) ∷ reduces 7 1 1 ∷ asks 1 20 1 (pos 130) 0 ∷ at_deadline ∷ []))
    (outcomes (Begun 500 ∷ Noted 0 ∷ Noted 0 ∷ Ended by_time 1 ∷ []))
    -- "71, after 50, meets a reduce whose units are 0 or not below the open units": 50 for a response and for another participant; 5 of 7 units are open
    ∷ row 102 (outcomes_after spread (began_against 7 2 (pos 130) ++ (at_deadline ∷ at 500 (wishes B 8 5 (pos 130)) ∷ at 500 (asks 1 20 9 (pos 200) 0) ∷ []))
    (map (at 500) (reduces 20 1 0 ∷ reduces 1 2 0 ∷ reduces 1 1 0 ∷ reduces 1 1 5 ∷ reduces 1 1 1_000_000 ∷ reduces 1 1 4 ∷ reduces 1 1 4 ∷ [])))
    (outcomes (Refused 50 ∷ Refused 50 ∷ Refused 71 ∷ Refused 71 ∷ Refused 71 ∷ Noted 0 ∷ Refused 71 ∷ []))
    ∷ []

-- M-106
abbrev pub leg_price_rows : List Row
leg_price_rows =
    -- "the lowest price on leg 0 is taken, then on leg 1": 220 less 115, and 225 less 110, as leg 1 is at 110 at least
    row 103 (prices_after spread (market ++ (buyer 1 1 5 (pos 105) ∷ [])) (sells 1 2 5 (pos 105))) (priced_as (priced (220 ∷ 115 ∷ []) ∷ []))
    ∷ row 104 (prices_after spread (market ++ (buyer 1 1 5 (pos 115) ∷ [])) (sells 1 2 5 (pos 115))) (priced_as (priced (225 ∷ 110 ∷ []) ∷ []))
    -- leg 0 may be the one that is sold: the lowest that leg 1 can follow
    ∷ row 105 (prices_after (pair 6 S 1 B 1 5) (quote 0 110 10 120 10 ∷ quote 1 220 10 240 10 ∷ buyer 1 1 5 (pos 115) ∷ []) (sells 1 2 5 (pos 115))) (priced_as (priced (110 ∷ 225 ∷ []) ∷ []))
    -- "a leg's ask is more than 50 cents above its bid": 50 is not
    ∷ row 106 (prices_after spread (quote 0 220 10 270 10 ∷ quote 1 110 10 120 10 ∷ buyer 1 1 5 (pos 150) ∷ []) (sells 1 2 5 (pos 150))) (priced_as (priced (260 ∷ 110 ∷ []) ∷ []))
    ∷ row 107 (prices_after spread (quote 0 220 10 271 10 ∷ quote 1 110 10 120 10 ∷ buyer 1 1 5 (pos 150) ∷ []) (sells 1 2 5 (pos 150))) (priced_as (unpriced ∷ []))
    -- "a leg lacks a side", though one that the order does not use
    ∷ row 108 (prices_after spread (quote 0 220 10 240 10 ∷ quote 1 110 10 0 0 ∷ buyer 1 1 5 (pos 115) ∷ []) (sells 1 2 5 (pos 115))) (priced_as (unpriced ∷ []))
    -- "or no such prices exist": three times leg 0 less 110 or 111 is 549, 550, 552, 553, 555 or 556
    ∷ row 109 (prices_after (pair 6 B 3 S 1 5) (quote 0 220 9 222 9 ∷ quote 1 110 9 111 9 ∷ buyer 1 1 5 (pos 551) ∷ []) (sells 1 2 5 (pos 551))) (priced_as (unpriced ∷ []))
    ∷ row 110 (prices_after (pair 6 B 3 S 1 5) (quote 0 220 9 222 9 ∷ quote 1 110 9 111 9 ∷ buyer 1 1 5 (pos 552) ∷ []) (sells 1 2 5 (pos 552))) (priced_as (priced (221 ∷ 111 ∷ []) ∷ []))
    -- "as they stood just before the fill": the legs gave all ten units first, and their sides are absent; "Fills against legs show the prices taken"
    ∷ row 111 (prices_after spread (market ++ (sells 1 1 9 (pos 130) ∷ [])) (buyer 1 2 15 (pos 130))) (priced_as (priced (240 ∷ 110 ∷ []) ∷ unpriced ∷ []))
    -- a side with fewer contracts than the ratio is not absent: one is left of each; "ends included"
    ∷ row 112 (prices_after (pair 6 B 2 S 3 5) (quote 0 220 11 240 11 ∷ quote 1 110 16 120 16 ∷ sells 1 1 9 (pos 150) ∷ []) (buyer 1 2 8 (pos 150))) (priced_as (priced (240 ∷ 110 ∷ []) ∷ priced (240 ∷ 110 ∷ []) ∷ []))
    ∷ []

-- the table
abbrev pub sentences : List Row
sentences = series_rows ++ price_rows ++ life_rows ++ auction_rows ++ execution_rows ++ turned_back_rows ++ tape_rows ++ arrival_rows ++ average_rows ++ leg_size_rows ++ third_friday_rows ++ reduce_rows ++ leg_price_rows

-- the rules answer as it says
unfoldable pub SentencesHold : Type 0
SentencesHold = map (λ r. said r.asked) sentences ≡ map (λ r. r.expected) sentences
