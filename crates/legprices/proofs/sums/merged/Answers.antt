use borrow.Author.Rules.{rules}
use mir.Syntax.{w64}
use mir.Val.{Fits}
use Rattle.legprices.proofs.BitLaws.{merged_bits}
use Rattle.legprices.proofs.sums.merged.Goals as goal

pub returns : goal.returns
returns c =
    let a = c.args in
    let f : Fits w64 a.low = search rules in
    merged_bits a.word a.low a.high a.m c.requires f.fits
