-- The day is compared with the formula's, which the weekday rule accepts and no other.
use mathlib.Core.Path.{sym, ap, ◌∙◌}
use Prim.Native.Nat.{ℕ}
use lib.Dec.{eqb}
use Rattle.rules.specs.Series.{ThirdFridaysFixed}
use Rattle.rules.proofs.SeriesLaws.{third_fridays}
use Rattle.calendar.proofs.is_third_friday.Goals as goal

pub returns : goal.returns
unfolding ThirdFridaysFixed
returns c =
    let a = c.args in
    ap (λ (d : ℕ). eqb a.day d) c.third_friday.ensures ∙ sym (third_fridays a.month a.day)
