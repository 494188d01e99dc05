use Prim.Native.Nat.{◌≤◌}
use lib.ListN.{length}
use Rattle.rules.specs.Print.{last_line}
use Rattle.text.specs.Text.{line_text}
use Rattle.text.specs.Outputs.{most_line, Puts}
use Rattle.text.proofs.PutsLaws.{puts_line}
use Rattle.session.proofs.put_last.Goals as goal

pub returns : goal.returns
returns c =
    λ longs.
    let l = c.put_last-n.ensures in
    let n = c.open_counts-counts.ensures longs in
    let h = c.open_counts-counts.result in
    let line : Puts (line_text (last_line h.orders h.responses)) _ _ _ _ × (length (line_text (last_line h.orders h.responses)) ≤ most_line) =
    puts_line (line_text (last_line h.orders h.responses)) _ _ _ _ _ _ _ l.0 l.1 l.2 c.add.ensures
    in
    rw (n.0, n.1) at line
