use Rattle.tumghavi.proofs.ToldLaws.{same-told}
use Rattle.tumghavi.proofs.tumghavi_record_in.Goals as goal

pub returns : goal.returns
returns c =
    same-told _ _ _ _ _ _ _ _ _ c.record_of-f.ensures c.tell.ensures
