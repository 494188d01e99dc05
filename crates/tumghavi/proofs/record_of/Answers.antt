use borrow.Author.Tests.{ne_eqb}
use Rattle.tumghavi.proofs.record_of.Goals as goal

pub returns-then-p-eq-RECORD : goal.returns-then-p-eq-RECORD
returns-then-p-eq-RECORD c = rw c.if-p-eq-RECORD.true c.fields_of.ensures

pub returns : goal.returns
returns c = rw (ne_eqb _ _ c.if-p-eq-RECORD.false) c.fields_of-2.ensures
