use Prim.Native.Nat.{◌-◌, ◌≤◌}
use Rattle.text.specs.Outputs.{most_line}
use Rattle.text.proofs.AverageLaws.{averages_text}
use Rattle.text.proofs.PutsLaws.{EachPut}
use Rattle.text.proofs.add_averages.Given as goal

abbrev pub invariant-loop-i : goal.invariant-loop-i
invariant-loop-i l = (l.i ≤ l.count) × EachPut (averages_text l.list l.n) most_line l.i l.initial.out l.start l.at l.out

abbrev pub decreases-loop-i : goal.decreases-loop-i
decreases-loop-i l = l.count - l.i
