use Prim.Native.Nat.{◌-◌, ◌≤◌}
use Rattle.text.specs.Outputs.{most_line}
use Rattle.text.proofs.PutsLaws.{EachPut}
use Rattle.text.proofs.FillLaws.{fills_text}
use Rattle.text.proofs.add_fills.Given as goal

abbrev pub invariant-loop-i : goal.invariant-loop-i
invariant-loop-i l = (l.i ≤ l.n) × EachPut (fills_text l.list) most_line l.i l.initial.out l.start l.at l.out

abbrev pub decreases-loop-i : goal.decreases-loop-i
decreases-loop-i l = l.n - l.i
