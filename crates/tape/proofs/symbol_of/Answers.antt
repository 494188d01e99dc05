use mathlib.Core.Path.{◌≡◌, refl, sym, ◌∙◌}
use native.Mathlib.Omega.{arith}
use lib.ListN.{get_or}
use lib.Seq.{take_all}
use Rattle.types.proofs.TableLaws.{from_end}
use Rattle.tape.proofs.LegLaws.{bytes_more, bytes_are}
use borrow.Author.Rules.{rules}
use Rattle.tape.proofs.symbol_of.Goals as goal

pub loop-i-init : goal.loop-i-init
loop-i-init c = (refl, search rules, sym (from_end (λ i. get_or c.args.p.now i 0) 0 0 (search rules)))

pub loop-i-preserved : goal.loop-i-preserved
loop-i-preserved c =
    (search rules, search rules, rw c.byte_at.ensures (bytes_more c.loop-i.s c.args.p.now c.loop-i.i (search rules) c.loop-i.invariant.2))

pub returns : goal.returns
returns c =
    let full : c.loop-i.i ≡ 21 = omega arith in
    sym (take_all 21 c.loop-i.s (search rules)) ∙ (rw full at c.loop-i.invariant.2) ∙ bytes_are 21 c.args.p.now
