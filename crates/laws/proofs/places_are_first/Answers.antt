use Rattle.laws.proofs.Places.{places_are_first_lem}
use Rattle.laws.proofs.places_are_first.Goals as goal

pub returns : goal.returns
returns c = places_are_first_lem
