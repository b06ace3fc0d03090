use Rattle.laws.proofs.Longest.{longest_tape}
use Rattle.laws.proofs.tapes_are_short.Goals as goal

pub returns : goal.returns
returns c = longest_tape
