use mathlib.Core.Path.{◌≡◌}
use mathlib.Core.Bool.{◌&&◌}
use mathlib.Core.List.{List}
use Prim.Native.Nat.{ℕ, ◌-◌, ◌≤◌}
use Rattle.rules.specs.Book.{is_response}
use Rattle.rules.specs.Refusals.{is_order, of_participant}
use Rattle.state.specs.View.{entry_at, open_count}
use Rattle.book.proofs.ScanLaws.{Seen}
use Rattle.book.proofs.standing_of.Given as goal

abbrev pub invariant-loop-k : goal.invariant-loop-k
invariant-loop-k l =
    (l.k ≤ l.m) × (l.m ≡ open_count l.words)
    × ((longs : List ℕ) → Seen l.s.order (λ e. is_order e && of_participant l.id l.participant e) (entry_at longs l.words) l.k l.m
    × Seen l.s.response (λ e. is_response e.stage && of_participant l.id l.participant e) (entry_at longs l.words) l.k l.m)

abbrev pub decreases-loop-k : goal.decreases-loop-k
decreases-loop-k l = l.m - l.k
