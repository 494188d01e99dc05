use mathlib.Core.Path.{◌≡◌}
use Prim.Native.Nat.{◌+◌, ◌-◌, ◌≤◌}
use lib.ListN.{get_or}
use Rattle.rules.specs.Book.{released}
use Rattle.types.specs.View.{stage_of}
use Rattle.state.specs.Layout as L
use Rattle.state.specs.View.{open_count}
use Rattle.book.proofs.PassLaws.{Passed}
use Rattle.book.proofs.changes.release.Given as goal

abbrev pub invariant-loop-k : goal.invariant-loop-k
invariant-loop-k l = (l.k ≤ l.m) × (l.m ≡ open_count l.initial.words) × Passed L.stages (λ i s. stage_of s ≡ released (stage_of (get_or l.initial.words (L.stages + i) 0))) l.initial.words l.words l.k

abbrev pub decreases-loop-k : goal.decreases-loop-k
decreases-loop-k l = l.m - l.k
