use Rattle.store.proofs.Shown.{examples}
use Rattle.store.proofs.examples_stand.Goals as goal

pub returns : goal.returns
returns c = examples
