use Rattle.rules.proofs.ReachedLaws.{reached_states}
use Rattle.rules.proofs.reached_states_fit.Goals as goal

pub returns : goal.returns
returns c = reached_states
