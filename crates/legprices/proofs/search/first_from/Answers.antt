use mathlib.Core.Path.{◌≡◌, refl, ap, sym, ◌∙◌}
use mathlib.Core.Bool.{◌&&◌}
use Prim.Native.Nat.{ℕ, ◌+◌, ◌-◌}
use native.Mathlib.Omega.{arith}
use lib.Dec.{leb}
use Rattle.legprices.specs.Sums.{spans_from, reach}
use Rattle.legprices.specs.Found.{fits}
use Rattle.legprices.proofs.SearchLaws.{first-hit, first_next, first_end}
use Rattle.legprices.proofs.search.first_from.Goals as goal

pub loop-x-init : goal.loop-x-init
loop-x-init c = (omega arith, refl)

pub returns-then-leaves : goal.returns-then-leaves
returns-then-leaves c =
    let a = c.args in
    (sym (first-hit c.loop-x.x a.end (fits a.plus a.ratio a.width (spans_from a.legs.now a.i) a.s) (omega arith) (sym (c.leaves.ensures ∙ ap (λ (t : ℕ). leb t a.s && reach (spans_from a.legs.now a.i) (a.s - t)) c.taken-part.ensures) ∙ c.if-leaves.true)) ∙ c.loop-x.invariant.1, omega arith)

pub loop-x-preserved : goal.loop-x-preserved
loop-x-preserved c =
    let a = c.args in
    (omega arith, first_next c.loop-x.x a.end (fits a.plus a.ratio a.width (spans_from a.legs.now a.i) a.s) (omega arith) (sym (c.leaves.ensures ∙ ap (λ (t : ℕ). leb t a.s && reach (spans_from a.legs.now a.i) (a.s - t)) c.taken-part.ensures) ∙ c.if-leaves.false) ∙ c.loop-x.invariant.1)

pub returns : goal.returns
returns c =
    let L = c.loop-x in
    let a = c.args in
    let z : a.end + 1 ≡ L.x = omega arith in
    sym L.invariant.1 ∙ first_end L.x a.end _ (omega arith) ∙ sym z
