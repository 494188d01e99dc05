use Rattle.types.proofs.RefusalLaws.{handed_on}
use Rattle.refusals.proofs.reduce_row.Goals as goal

pub returns-in_err-when : goal.returns-in_err-when
returns-in_err-when c = λ longs.
    let known = rw ((c.standing_of-known.ensures longs).0) at c.in_err-when.ensures.err in
    rw (handed_on _ _ c.from_residual.ensures.1, c.in_err-when.ensures.number, c.in_err-when.ensures.err, known)

pub returns : goal.returns
returns c = λ longs.
    let known = rw ((c.standing_of-known.ensures longs).0) at c.in_ok-when.ensures.ok in
    rw (known, c.when-2.ensures.number, c.units_of.ensures longs)
