use Rattle.types.proofs.RefusalLaws.{handed_on}
use Rattle.refusals.proofs.every_row.Goals as goal

pub returns-in_err-when : goal.returns-in_err-when
returns-in_err-when c =
    rw (handed_on _ _ c.from_residual.ensures.1, c.in_err-when.ensures.number, c.in_err-when.ensures.err)

pub returns-in_err-when-2 : goal.returns-in_err-when-2
returns-in_err-when-2 c =
    let time = rw (c.last_time.ensures) at c.in_err-when-2.ensures.err in
    rw (c.in_ok-when.ensures.ok, handed_on _ _ c.from_residual-in_err-when-2.ensures.1, c.in_err-when-2.ensures.number, c.in_err-when-2.ensures.err, time)

pub returns-in_err-when-3 : goal.returns-in_err-when-3
returns-in_err-when-3 c =
    let time = rw (c.last_time.ensures) at c.in_ok-when-2.ensures.ok in
    rw (c.in_ok-when.ensures.ok, time, handed_on _ _ c.from_residual-in_err-when-3.ensures.1, c.in_err-when-3.ensures.number, c.in_err-when-3.ensures.err)

pub returns : goal.returns
returns c =
    let time = rw (c.last_time.ensures) at c.in_ok-when-2.ensures.ok in
    rw (c.in_ok-when.ensures.ok, time, c.in_ok-when-3.ensures.ok, c.when-4.ensures.number, c.is_clock.ensures, c.is_reached.ensures)
