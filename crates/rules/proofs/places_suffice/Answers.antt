use Rattle.rules.proofs.RoomLaws.{places_suffice}
use Rattle.rules.proofs.places_suffice.Goals as goal

pub returns : goal.returns
returns c = places_suffice
