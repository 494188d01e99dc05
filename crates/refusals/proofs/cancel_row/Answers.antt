use Rattle.refusals.proofs.cancel_row.Goals as goal

pub returns : goal.returns
returns c = λ longs.
    rw (c.when.ensures.number, (c.standing_of-known.ensures longs).0)
