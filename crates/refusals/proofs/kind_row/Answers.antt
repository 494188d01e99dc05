use Rattle.refusals.proofs.kind_row.Goals as goal

pub returns-in-Local : goal.returns-in-Local
returns-in-Local c = λ longs. rw c.in-Local.is (c.local_row.ensures longs)

pub returns-in-National : goal.returns-in-National
returns-in-National c = λ longs. rw c.in-National.is (c.national_row.ensures longs)
