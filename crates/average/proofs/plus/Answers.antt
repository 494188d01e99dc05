use native.Mathlib.Omega.{arith}
use Rattle.average.proofs.PartLaws.{sum_fits, carry_fits}
use Rattle.average.proofs.plus.Goals as goal

pub overflow_add-quotient : goal.overflow_add-quotient
overflow_add-quotient c = let a = c.args in let p = c.requires in record { fits = sum_fits a.units a.a.quotient a.a.remainder a.b.quotient a.b.remainder p.3 }

pub overflow_add-remainder : goal.overflow_add-remainder
overflow_add-remainder c = let a = c.args in let p = c.requires in record { fits = omega (arith, p.0, p.1, p.2) }

pub overflow_add-result : goal.overflow_add-result
overflow_add-result c = let a = c.args in let p = c.requires in record { fits = carry_fits a.units a.a.quotient a.a.remainder a.b.quotient a.b.remainder c.if-remainder-units.false p.3 }

pub returns : goal.returns
returns c = let a = c.args in let p = c.requires in record { is = omega (arith, c.if-remainder-units.false); below = omega (arith, p.1, p.2, c.if-remainder-units.false) }
