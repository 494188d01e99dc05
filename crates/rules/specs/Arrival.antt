-- Document 02, M-101, "Fill records in arrival order": how the records of a turn stand, by prices, ranks and the numbers of messages. None of it goes by the keys and tiers of the rules, nor by what their entries keep.
use Rattle.std.specs.Prelude.{◌≡◌, Bool, true, false, ◌&&◌, List, [], ◌∷◌, map, ◌⊎◌, ℕ, ◌<◌, eqb, ℤ, ◌<ℤ◌}
use Rattle.rules.specs.Basics.{pick, Pairwise}
use Rattle.rules.specs.Strategy.{Strategy}
use Rattle.rules.specs.Messages.{Body, local, national, order, response, modify, cancel, clock, reduce}
use Rattle.rules.specs.State.{State}
use Rattle.rules.specs.Refusals.{refusal}
use Rattle.rules.specs.Turn.{Contra, legs, entry, Fill}
use Rattle.rules.specs.Execution.{Turn}
use Rattle.rules.specs.Run.{started, opening, Sent, answer_to, answers}
use Rattle.rules.specs.Best.{ranks_after, one_of}
use Rattle.rules.specs.Demand.{Told, Good}

-- ---- arrival numbers

-- the arrival number of the entry under each id
abbrev pub Arrivals : Type 0
Arrivals = ℕ → ℕ

-- none yet
abbrev pub no_arrivals : Arrivals
no_arrivals i = 0

-- the message gives an entry this id, or modifies it
abbrev pub gives : Body → ℕ → Bool
gives (local q) i = false
gives (national q) i = false
gives (order t w) i = eqb t.id i
gives (response t) i = eqb t.id i
gives (modify c) i = eqb c.id i
gives (cancel j p) i = false
gives clock i = false
gives (reduce j p n) i = false

-- "Each accepted message takes the next arrival number", and a response that is modified "the new arrival number": by the messages, the number of the last accepted one that gave or modified the entry; "A reduced order keeps its arrival number" (M-105)
abbrev pub arrivals_after : State → Sent → Arrivals → Arrivals
arrivals_after s m a i = pick (eqb (refusal s m.message m.room) 0 && gives m.message.body i) s.clock.next (a i)

-- ---- the records of a turn

-- one entry arrived before another; the legs have a price and rank to themselves
abbrev pub ArrivedBefore : Arrivals → Contra → Contra → Type 0
ArrivedBefore a legs c = ⊥
ArrivedBefore a (entry i) legs = ⊥
ArrivedBefore a (entry i) (entry j) = a i < a j

-- a better price for the order: lower for a buyer, higher for a seller
abbrev pub Cheaper : Bool → ℤ → ℤ → Type 0
Cheaper true p q = p <ℤ q
Cheaper false p q = q <ℤ p

-- "Price by price, best first", at one price rank by rank, and "Records of one order, price and rank now stand by the contra's arrival number"
abbrev pub StandsBefore : Bool → Arrivals → Fill → Fill → Type 0
StandsBefore buy a f g =
    Cheaper buy f.price g.price
    ⊎ ((f.price ≡ g.price) × ((one_of g.rank (ranks_after f.rank) ≡ true) ⊎ ((f.rank ≡ g.rank) × ArrivedBefore a f.contra g.contra)))

-- of every two records of a turn the earlier stands before the later
abbrev pub Standing : Arrivals → Turn → List Fill → Type 0
Standing a t rs = Pairwise (StandsBefore t.order.buy a) rs

-- ---- a list of messages

-- the records of each answer, given to the turns of the replay as demand 3 gives them, with the arrival numbers as they are then
abbrev pub AllStand : Arrivals → State → List Sent → List (List Fill) → Type 0
AllStand a s [] [] = Unit {0}
AllStand a s [] (rs ∷ rss) = ⊥
AllStand a s (m ∷ ms) [] = ⊥
AllStand a s (m ∷ ms) (rs ∷ rss) =
    Told (Standing (arrivals_after s m a)) (answer_to s m).turns rs × AllStand (arrivals_after s m a) (answer_to s m).state ms rss

-- for every accepted opening and every list of messages, refused ones included: the rules' own answers
unfoldable pub RecordsByArrivalOfRules : Type 0
RecordsByArrivalOfRules = (o : Strategy) (s : State) → opening o ≡ started s → (ms : List Sent) → AllStand no_arrivals s ms (map (λ a. a.fills) (answers s ms))

-- "the list is fixed to the last record": whatever records are as demand 3 asks and stand so, are the rules'
unfoldable pub RecordsAreFixed : Type 0
RecordsAreFixed =
    (o : Strategy) (s : State) → opening o ≡ started s → (ms : List Sent) (rss : List (List Fill)) → Good s ms rss → AllStand no_arrivals s ms rss → rss ≡ map (λ a. a.fills) (answers s ms)
