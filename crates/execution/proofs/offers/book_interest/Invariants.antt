use mathlib.Core.Path.{◌≡◌}
use mathlib.Core.List.{List}
use Prim.Native.Nat.{ℕ, ◌+◌, ◌-◌, ◌≤◌}
use lib.ListN.{length, get_or}
use Rattle.rules.specs.Turn.{key_of}
use Rattle.state.specs.Layout as L
use Rattle.state.specs.View.{flag, open_count}
use Rattle.execution.specs.Slots.{rules_mode, book_offer, Stand}
use Rattle.execution.proofs.offers.book_interest.Given as goal

abbrev pub invariant-loop-i : goal.invariant-loop-i
invariant-loop-i l =
    (l.i ≤ l.m) × (l.m ≡ open_count l.words) × (length l.slots.tiers ≡ 66) × (length l.slots.units ≡ 66) × (l.buy ≡ flag (get_or l.words (L.buys + l.k) 0)) × (l.last ≡ key_of l.buy (get_or l.words (L.prices + l.k) 0))
    × ((longs : List ℕ) → Stand (book_offer (rules_mode l.mode) longs l.words l.k) l.i l.slots.tiers l.slots.units)

abbrev pub decreases-loop-i : goal.decreases-loop-i
decreases-loop-i l = l.m - l.i
