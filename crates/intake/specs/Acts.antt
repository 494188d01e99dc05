-- What a message taken in stands for in the rules.
use Rattle.std.specs.Prelude.{◌≡◌, Bool, ◌&&◌}
use Rattle.rules.specs.Basics.{pick}
use Rattle.rules.specs.Outcome.{by_order}
use Rattle.rules.specs.Book.{Entry, queued, with_stage}
use Rattle.rules.specs.State.{Pending, State, with_auction}
use Rattle.rules.specs.Auction.{eligible, auction_of, ends_by_order, joins}
use Rattle.rules.specs.Step as R
use Rattle.rules.specs.Step.{goes_on, begins, joining, ends, Intake, intake, with_new}
use Rattle.types.specs.View.{cause_of}
use Rattle.state.specs.View.{state_of}
use Rattle.state.specs.Lent.{LentMut}
use Rattle.intake.specs.declared.Act.{Act}
use Rattle.intake.specs.declared.Act.TheVariants.{GoesOn, Begins, Joins, Ends}

-- what a message does to the auction
abbrev pub act_of : Act → R.Act
act_of GoesOn = goes_on
act_of Begins = begins
act_of Joins = joining
act_of (Ends c) = ends (cause_of c)

-- an order with no auction pending
abbrev pub outside : State → Bool → Entry → Intake
outside s wish o = pick (wish && eligible s o) (intake (with_auction (with_new s (with_stage queued o)) (auction_of s o s.clock.time)) begins) (intake (with_new s o) goes_on)

-- an order during an auction
abbrev pub during : State → Pending → Bool → Entry → Intake
during s p wish o =
    pick (ends_by_order s p o) (intake (with_new s o) (ends by_order)) (pick (joins s p wish o) (intake (with_new s (with_stage queued o)) joining) (intake (with_new s o) goes_on))

-- the state becomes that of an intake, and r is its act
pub record Takes (before after : State) (r : Act) (f : State → Intake) : Type 0 where
  pub state : after ≡ (f before).state
  pub act : act_of r ≡ (f before).act

-- the same said of the lent slices, for a contract
abbrev pub TakesIn : LentMut → LentMut → Act → (State → Intake) → Type 0
TakesIn longs words r f = Takes (state_of longs.entry.now words.entry.now) (state_of longs.exit.now words.exit.now) r f
