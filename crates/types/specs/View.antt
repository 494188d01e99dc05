-- What the engine's types stand for in the rules.
use Rattle.std.specs.Prelude.{List, [], ◌∷◌, ◌++◌, ℕ, zero, suc, ◌+◌, ◌-◌, min, eqb, length, get_or, take, Option, Some, None}
use Rattle.rules.specs.Basics.{pick}
use Rattle.types.specs.declared.Leg.{Leg}
use Rattle.types.specs.declared.Settings.{Settings}
use Rattle.types.specs.declared.Opening.{Opening}
use Rattle.types.specs.declared.Quote.{Quote}
use Rattle.types.specs.declared.Derived.{Derived}
use Rattle.types.specs.declared.Local.{Local}
use Rattle.types.specs.declared.National.{National}
use Rattle.types.specs.declared.Order.{Order}
use Rattle.types.specs.declared.Response.{Response}
use Rattle.types.specs.declared.Modify.{Modify}
use Rattle.types.specs.declared.Body.{Body}
use Rattle.types.specs.declared.Body.TheVariants.{Local as sent_local, National as sent_national, Order as sent_order, Response as sent_response, Modify as sent_modify, Cancel as sent_cancel, Clock as sent_clock, Reduce as sent_reduce}
use Rattle.types.specs.declared.Message.{Message}
use Rattle.types.specs.declared.Rank.{Rank}
use Rattle.types.specs.declared.Rank.TheVariants.{L as rank_l, C as rank_c, N as rank_n, T as rank_t, R as rank_r}
use Rattle.types.specs.declared.Contra.{Contra}
use Rattle.types.specs.declared.Contra.TheVariants.{Legs as contra_legs, Entry as contra_entry}
use Rattle.types.specs.declared.Fill.{Fill}
use Rattle.types.specs.declared.Cause.{Cause}
use Rattle.types.specs.declared.Cause.TheVariants.{Time as cause_time, Order as cause_order, Legs as cause_legs, Cancel as cause_cancel}
use Rattle.types.specs.declared.Outcome.{Outcome}
use Rattle.types.specs.declared.Outcome.TheVariants.{Noted as out_noted, Placed as out_placed, Begun as out_begun, Joined as out_joined, Ended as out_ended, Refused as out_refused}
use Rattle.types.specs.Refusals.{number_of}
use Rattle.rules.specs.Strategy as S
use Rattle.rules.specs.Prices as P
use Rattle.rules.specs.Book as B
use Rattle.rules.specs.Messages as M
use Rattle.rules.specs.Turn as U
use Rattle.rules.specs.LegPrices as G
use Rattle.rules.specs.Outcome as O

-- ---- tables

-- the values of f at n places from k on
unfoldable pub upto : {A : Type 0} → (ℕ → A) → ℕ → ℕ → List A
upto f k zero = []
upto f k (suc n) = f k ∷ upto f (k + 1) n

-- the values of f at the places from k to before n
abbrev pub from : {A : Type 0} → (ℕ → A) → ℕ → ℕ → List A
from f k n = upto f k (n - k)

-- ---- strategy

-- a leg
abbrev pub leg_of : Leg → S.Leg
leg_of l = record { symbol = l.symbol; side = l.side; ratio = l.ratio; mpv = l.mpv }

-- what stands in a place without a leg
abbrev pub no_leg : Leg
no_leg = record { symbol = []; side = 0; ratio = 0; mpv = 0 }

-- the leg at a place
abbrev pub leg_at : Opening → ℕ → S.Leg
leg_at s k = leg_of (get_or s.legs k no_leg)

-- the settings
abbrev pub settings_of : Settings → S.Settings
settings_of c =
    record {
      interval = c.interval;
      distance = c.distance;
      most_legs = c.legs;
      amount1 = c.amounts.one;
      amount5 = c.amounts.five;
      amount10 = c.amounts.ten;
      minimum = c.minimum;
      first_number = c.first;
      opening_time = c.time;
    }

-- the strategy of an opening, which may count more legs than there are places
abbrev pub opening_of : Opening → S.Strategy
opening_of s = record { legs = from (leg_at s) 0 s.count; settings = settings_of s.settings }

-- ---- market

-- a quote
abbrev pub quote_of : Quote → P.Quote
quote_of q =
    record {
      bid = record { price = q.bid; size = q.bidsize };
      ask = record { price = q.ask; size = q.asksize };
      national_bid = q.nationalbid;
      national_ask = q.nationalask;
    }

-- a derived price
abbrev pub derived_of : Derived → P.Derived
derived_of d = record { price = d.price; units = d.units }

-- ---- book

-- a stage
abbrev pub stage_of : ℕ → B.Stage
stage_of n = pick (eqb n 0) B.held (pick (eqb n 1) B.live (pick (eqb n 2) B.queued B.answer))

-- ---- messages

-- an order's terms
abbrev pub order_terms : Order → M.Terms
order_terms o = record { side = o.side; account = o.account; id = o.id; participant = o.participant; units = o.units; price = o.price }

-- a response's
abbrev pub response_terms : Response → M.Terms
response_terms r = record { side = r.side; account = r.account; id = r.id; participant = r.participant; units = r.units; price = r.price }

-- a modification
abbrev pub change_of : Modify → M.Change
change_of c = record { side = c.side; id = c.id; participant = c.participant; units = c.units; price = c.price }

-- a local quote
abbrev pub local_of : Local → M.Local
local_of q = record { leg = q.leg; bid_size = q.bidsize; bid = q.bid; ask = q.ask; ask_size = q.asksize }

-- a national quote
abbrev pub national_of : National → M.National
national_of q = record { leg = q.leg; bid = q.bid; ask = q.ask }

-- a message's body
abbrev pub body_of : Body → M.Body
body_of (sent_local q) = M.local (local_of q)
body_of (sent_national q) = M.national (national_of q)
body_of (sent_order o) = M.order (order_terms o) o.wish
body_of (sent_response r) = M.response (response_terms r)
body_of (sent_modify c) = M.modify (change_of c)
body_of (sent_cancel c) = M.cancel c.id c.participant
body_of sent_clock = M.clock
body_of (sent_reduce c) = M.reduce c.id c.participant c.units

-- a message
abbrev pub message_of : Message → M.Message
message_of m = record { time = m.time; body = body_of m.body }

-- ---- answers

-- a rank
abbrev pub rank_of : Rank → U.Rank
rank_of rank_l = U.L
rank_of rank_c = U.C
rank_of rank_n = U.N
rank_of rank_t = U.T
rank_of rank_r = U.R

-- a contra
abbrev pub contra_of : Contra → U.Contra
contra_of contra_legs = U.legs
contra_of (contra_entry i) = U.entry i

-- the rank of a number
abbrev pub rank_from : ℕ → U.Rank
rank_from n = pick (eqb n 0) U.L (pick (eqb n 1) U.C (pick (eqb n 2) U.N (pick (eqb n 3) U.T U.R)))

-- a number of 32 bits
abbrev pub narrow : ℕ → ℕ
narrow n = min n 4_294_967_295

-- the contra of a number: 0 is the legs, another an id and 1
abbrev pub contra_from : ℕ → U.Contra
contra_from n = pick (eqb n 0) U.legs (U.entry (narrow (n - 1)))

-- a fill record
abbrev pub fill_of : Fill → U.Fill
fill_of f = record { number = f.number; order = f.order; rank = rank_of f.rank; contra = contra_of f.contra; price = f.price; units = f.units }

-- the leg prices of a record, from how many there are and the four numbers beside it
abbrev pub leg_prices_of : Option ℕ → List ℕ → G.LegPrices
leg_prices_of None ps = G.unpriced
leg_prices_of (Some n) ps = G.priced (take n ps)

abbrev pub prices_of : Fill → G.LegPrices
prices_of f = leg_prices_of f.legs f.prices

-- how a record holds leg prices: how many there are, and four numbers, 0 behind the prices
abbrev pub held_legs : G.LegPrices → Option ℕ
held_legs G.unpriced = None
held_legs (G.priced ps) = Some (length ps)

abbrev pub held_prices : G.LegPrices → List ℕ
held_prices G.unpriced = 0 ∷ 0 ∷ 0 ∷ 0 ∷ []
held_prices (G.priced ps) = take 4 (ps ++ (0 ∷ 0 ∷ 0 ∷ 0 ∷ []))

-- the cause of an end
abbrev pub cause_of : Cause → O.Cause
cause_of cause_time = O.by_time
cause_of cause_order = O.by_order
cause_of cause_legs = O.by_legs
cause_of cause_cancel = O.by_cancel

-- an outcome
abbrev pub outcome_of : Outcome → O.Outcome
outcome_of (out_noted n) = O.Noted n
outcome_of (out_placed u n) = O.Placed u n
outcome_of (out_begun t) = O.Begun t
outcome_of (out_joined u) = O.Joined u
outcome_of (out_ended c n) = O.Ended (cause_of c) n
outcome_of (out_refused r) = O.Refused (number_of r)
