use Rattle.text.proofs.put_contra.Goals as goal

pub returns : goal.returns
returns c = (rw (← c.contra_number.ensures) c.put_next.ensures.0, c.put_next.ensures.1)
