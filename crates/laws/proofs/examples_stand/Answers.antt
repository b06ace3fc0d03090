use Rattle.laws.proofs.Shown.{examples, devices}
use Rattle.laws.proofs.examples_stand.Goals as goal

pub returns : goal.returns
returns c = record { texts = examples; devices = devices }
