use Rattle.sessions.proofs.main.Goals as goal

pub returns : goal.returns
returns c = tt
