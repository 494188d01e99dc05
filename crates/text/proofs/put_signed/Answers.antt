use mathlib.Core.Path.{ap, ◌∙◌}
use native.Mathlib.Omega.{arith}
use lib.IntN.{nat_abs}
use mir.Syntax.{w64}
use mir.Facts.{to_z-of_z}
use Rattle.text.specs.Text.{digits}
use Rattle.text.proofs.SignLaws.{minus, no_minus}
use Rattle.text.proofs.WroteLaws.{join, same}
use Rattle.text.proofs.put_signed.Goals as goal

pub returns-then-v-lt0 : goal.returns-then-v-lt0
returns-then-v-lt0 c =
    let v = c.args.v in
    let e = to_z-of_z {w = w64} {z = v} c.ranges.v in
    let d = same (ap digits (c.unsigned_abs-n.ensures.value ∙ ap nat_abs e)) c.put_number.ensures.0 in
    (rw (minus v (rw e at c.if-v-lt0.true)) (join c.put_byte-at.ensures.0 (join c.put_byte-at-then-v-lt0.ensures.0 d)), omega arith)

pub returns : goal.returns
returns c =
    let v = c.args.v in
    let e = to_z-of_z {w = w64} {z = v} c.ranges.v in
    let d = same (ap digits (c.unsigned_abs-n.ensures.value ∙ ap nat_abs e)) c.put_number-2.ensures.0 in
    (rw (no_minus v (rw e at c.if-v-lt0.false)) (join c.put_byte-at.ensures.0 d), omega arith)
