-- M-103: what is kept of the legs is the least number of units that the starting price has shown, said from the messages.
use Rattle.std.specs.Prelude.{◌≡◌, Bool, List, [], ◌∷◌, ◌++◌, ◌⊎◌, ℕ, ◌≤◌, ◌<◌}
use Rattle.rules.specs.Basics.{All}
use Rattle.rules.specs.Strategy.{Strategy}
use Rattle.rules.specs.Prices.{Derived}
use Rattle.rules.specs.Refusals.{refusal}
use Rattle.rules.specs.State.{Pending, pending, State, taken, contra_price}
use Rattle.rules.specs.Outcome.{Outcome, Noted, Placed, Begun, Joined, Ended, Refused}
use Rattle.rules.specs.Step.{take_in, watched}
use Rattle.rules.specs.Run.{started, opening, Sent, answer_to, after}

-- ---- when the legs are read

-- "when the auction starts, after each later accepted message": the states read so far with one more, by its outcome
abbrev pub reading : Outcome → State → List State → List State
reading (Noted n) s rs = rs ++ (s ∷ [])
reading (Placed u n) s rs = rs ++ (s ∷ [])
reading (Begun t) s rs = s ∷ []
reading (Joined u) s rs = rs ++ (s ∷ [])
reading (Ended c n) s rs = rs ++ (s ∷ [])
reading (Refused n) s rs = rs

-- the state after the message that was last answered Begun, and those after each later accepted one
unfoldable pub readings : State → List Sent → List State → List State
readings s [] rs = rs
readings s (m ∷ ms) rs = let a = answer_to s m in readings a.state ms (reading a.outcome a.state rs)

-- "and as its end begins": the state with a message taken in, and nothing yet of what it sets off
abbrev pub taken_in : State → Sent → State
taken_in s m = (take_in (taken s m.message.time) m.message.body).state

-- ---- what they show

-- the units that a price shows an order of one side: those of the derived contra price, or 0 where that is another
abbrev pub Shows : Bool → ℕ → State → ℕ → Type 0
Shows buy p s n = let d = contra_price s buy in ((d.price ≡ p) × (n ≡ d.units)) ⊎ ((d.price ≡ p → ⊥) × (n ≡ 0))

-- it shows so many in one of some states
abbrev pub ShownIn : Bool → ℕ → ℕ → List State → Type 0
ShownIn buy p n [] = ⊥
ShownIn buy p n (s ∷ rs) = Shows buy p s n ⊎ ShownIn buy p n rs

-- "the smallest number of units it has shown": in one of the states so many, in none fewer
pub record IsLeast (buy : Bool) (p n : ℕ) (rs : List State) : Type 0 where
  pub shown : ShownIn buy p n rs
  pub least : All (λ s. (k : ℕ) → Shows buy p s k → n ≤ k) rs

-- what is kept, by the states that were read: nothing where no derived contra price existed in the first; else its price alone, with the least units that it has shown
abbrev pub KeptSince : Bool → List State → List Derived → Type 0
KeptSince buy [] ks = ⊥
KeptSince buy (s ∷ rs) [] = (contra_price s buy).units ≡ 0
KeptSince buy (s ∷ rs) (k ∷ []) = (0 < (contra_price s buy).units) × (k.price ≡ (contra_price s buy).price) × IsLeast buy k.price k.units (s ∷ rs)
KeptSince buy (s ∷ rs) (k ∷ j ∷ ks) = ⊥

-- ---- the claim

-- after every list of messages that follows an accepted opening, and as a further one, taken in, has been read
unfoldable pub LegsKeptOfRules : Type 0
LegsKeptOfRules =
    (o : Strategy) (s : State) → opening o ≡ started s → (ms : List Sent) (p : Pending)
    → ((after s ms).auction ≡ pending p → KeptSince p.buy (readings s ms []) p.start)
    × ((m : Sent) → refusal (after s ms) m.message m.room ≡ 0 → (watched m.message.body (taken_in (after s ms) m)).auction ≡ pending p
    → KeptSince p.buy (reading (answer_to (after s ms) m).outcome (taken_in (after s ms) m) (readings s ms [])) p.start)
