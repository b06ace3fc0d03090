use Rattle.digits.proofs.Shown.{examples}
use Rattle.digits.proofs.examples_stand.Goals as goal

pub returns : goal.returns
returns c = examples
