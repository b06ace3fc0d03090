use Rattle.laws.proofs.Firsts.{mentions_written, letters_first, constants_first, instructions_first}
use Rattle.laws.proofs.firsts_are_named.Goals as goal

pub returns : goal.returns
returns c = record { mentions = mentions_written; letters = letters_first; constants = constants_first; instructions = instructions_first }
