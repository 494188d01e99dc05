use Prim.Native.Nat.{◌*◌}
use native.Mathlib.Nat.{mod-lt}
use Rattle.average.proofs.PartLaws.{rest-fits, product_fits, taken-fits, taken}
use Rattle.average.proofs.times.Goals as goal

pub overflow_mul-remainder : goal.overflow_mul-remainder
overflow_mul-remainder c = let a = c.args in let p = c.requires in record { fits = rest-fits a.units a.a.remainder a.k p.0 p.1 p.2 }

pub overflow_mul-result : goal.overflow_mul-result
overflow_mul-result c = let a = c.args in let p = c.requires in record { fits = product_fits a.units a.a.quotient a.a.remainder a.k p.3 }

pub overflow_add-result : goal.overflow_add-result
overflow_add-result c = let a = c.args in let p = c.requires in record { fits = taken-fits a.units a.a.quotient a.a.remainder a.k p.0.0 p.3 }

pub returns : goal.returns
returns c = let a = c.args in let p = c.requires in record { is = taken a.units a.a.quotient a.a.remainder a.k p.0.0; below = mod-lt (a.a.remainder * a.k) p.0.0 }
