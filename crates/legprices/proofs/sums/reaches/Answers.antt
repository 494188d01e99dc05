use mathlib.Core.Path.{sym, ap, ◌∙◌}
use mathlib.Core.List.{List}
use native.Mathlib.Omega.{arith}
use Rattle.legprices.specs.Sums.{Span, reach, spans_from}
use Rattle.legprices.proofs.SumLaws.{reach_none, reach_above}
use Rattle.legprices.proofs.MadeLaws.{spans-none, spans-last, spans-most}
use Rattle.legprices.proofs.sums.reaches.Goals as goal

pub returns-then-i-legs : goal.returns-then-i-legs
returns-then-i-legs c =
    let a = c.args in
    sym (ap (λ (gs : List Span). reach gs a.s) (spans-none a.legs.now a.i (omega arith)) ∙ reach_none a.s)

pub alone-requires : goal.alone-requires
alone-requires c =
    let i = c.args.i in
    (c.requires.0.0.ratio i, c.requires.0.0.width i)

pub returns-then-i-legs-2 : goal.returns-then-i-legs-2
returns-then-i-legs-2 c =
    let a = c.args in
    c.alone.ensures ∙ sym (ap (λ (gs : List Span). reach gs a.s) (spans-last a.legs.now a.i (omega arith)))

pub returns-then-at-ge-TABLE_BITS : goal.returns-then-at-ge-TABLE_BITS
returns-then-at-ge-TABLE_BITS c =
    let a = c.args in
    sym (reach_above (spans_from a.legs.now a.i) a.s (omega (arith, spans-most a.legs.now c.requires.0.0 a.i, c.requires.0.0.few)))

pub returns : goal.returns
returns c =
    let a = c.args in
    c.requires.0.1.shown a.i (omega arith) (omega arith) a.s (omega arith)
