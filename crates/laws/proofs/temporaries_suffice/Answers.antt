use Rattle.laws.proofs.Waiting.{temporaries_fit, operations_few}
use Rattle.laws.proofs.temporaries_suffice.Goals as goal

pub returns : goal.returns
returns c = record { fit = temporaries_fit; few = operations_few }
