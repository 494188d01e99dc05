use mathlib.Core.Path.{subst}
use mathlib.Core.List.{List}
use Prim.Native.Nat.{ℕ}
use Rattle.text.specs.Buffer.{Put}
use Rattle.text.proofs.PriceLaws.{legs_priced}
use Rattle.text.proofs.WroteLaws.{whole}
use borrow.Author.Rules.{rules}
use Rattle.text.proofs.put_legs.Goals as goal

pub returns-in-None : goal.returns-in-None
returns-in-None c = rw c.in-None.is (whole c.put_word.ensures (search rules) (search rules))

pub returns-in-Some : goal.returns-in-Some
returns-in-Some c =
    let a = c.args in
    let p = c.put_line in
    rw c.in-Some.is (subst (λ (bs : List ℕ). Put bs a.out.now p.result p.new.out) (legs_priced a.f.prices c.in-Some.n c.min.result (search rules) c.min.ensures) p.ensures)
