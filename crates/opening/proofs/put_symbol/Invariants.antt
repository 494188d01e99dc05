-- Behind the words are the bytes; outside the leg's symbol all is as it was.
use mathlib.Core.Path.{◌≡◌}
use Prim.Native.Nat.{ℕ, ◌+◌, ◌-◌, ◌*◌, ◌≤◌, ◌<◌}
use lib.ListN.{get_or}
use Rattle.state.specs.Layout as L
use Rattle.state.specs.Layout.{WordsSized}
use Rattle.state.specs.Stores.{Kept}
use Rattle.opening.proofs.put_symbol.Given as goal

abbrev pub invariant-loop-i : goal.invariant-loop-i
invariant-loop-i l =
    (l.i ≤ 21) × (l.start ≡ L.symbols + 21 * l.k) × (l.k < 4) × WordsSized l.words × ((j : ℕ) → j < l.i → get_or l.words (l.start + j) 0 ≡ get_or l.symbol j 0) × Kept l.start (l.start + 21) l.initial.words l.words

abbrev pub decreases-loop-i : goal.decreases-loop-i
decreases-loop-i l = 21 - l.i
