-- What an auction keeps of the legs, in the lent slices.
use Rattle.std.specs.Prelude.{◌≡◌, Bool, ◌&&◌, not, List, ℕ, eqb, get_or}
use Rattle.rules.specs.State.{Auction, with_auction}
use Rattle.state.specs.Layout as L
use Rattle.state.specs.View.{state_of}
use Rattle.state.specs.Lent.{Lent, LentMut}

-- whether a price is kept
abbrev pub is_kept : List ℕ → ℕ → Bool
is_kept longs p = not (eqb (get_or longs L.start_count 0) 0) && eqb (get_or longs L.start_prices 0) p

-- the auction becomes f of what it was, by a change of the words
abbrev pub AuctionBecomes : Lent → LentMut → (Auction → Auction) → Type 0
AuctionBecomes longs words f =
    let s = state_of longs.entry.now words.entry.now in
    state_of longs.entry.now words.exit.now ≡ with_auction s (f s.auction)
