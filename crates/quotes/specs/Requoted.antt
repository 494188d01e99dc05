-- The quote of one leg replaced in the words of a state.
use Rattle.std.specs.Prelude.{◌≡◌, List, ℕ, ◌<◌}
use Rattle.rules.specs.Prices.{Quote}
use Rattle.state.specs.Layout as L
use Rattle.state.specs.View.{quote_at}
use Rattle.state.specs.Stores.{Kept}

-- leg k has that quote, the other legs have theirs, and outside the quotes all is as it was
pub record Requoted (k : ℕ) (q : Quote) (old new : List ℕ) : Type 0 where
  pub kept : Kept L.bids L.sides old new
  pub here : quote_at new k ≡ q
  pub there : (i : ℕ) → i < 4 → (i ≡ k → ⊥) → quote_at new i ≡ quote_at old i
