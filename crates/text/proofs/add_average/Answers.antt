use Rattle.text.proofs.AverageLaws.{puts_average}
use mir.Val.{to_z, of_z}
use mir.Facts.{to_z-of_z}
use mir.Syntax.{w64}
use borrow.Author.Rules.{rules}
use Rattle.text.proofs.add_average.Goals as goal

pub returns : goal.returns
returns c =
    let a = c.args in
    let e = to_z-of_z {w = w64} {z = a.quotient} (search rules) in
    let l = c.put_average-n.ensures in
    puts_average a.order (to_z w64 (of_z w64 a.quotient)) a.quotient a.remainder _ _ _ _ _ _ _ e l.0 l.1 l.2 c.add.ensures
