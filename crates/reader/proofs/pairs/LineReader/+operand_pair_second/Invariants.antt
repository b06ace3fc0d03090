use Rattle.std.proofs.Common.{◌+◌, ◌*◌}
use Rattle.reader.proofs.pairs.LineReader.+operand_pair_second.Given as goal

-- A parenthesis takes one from the room; a pair calls for its parts with the same room, so each of the three has a step of its own within it.
abbrev pub decreases-operand : goal.decreases-operand
decreases-operand l = 3 * l.depth.room

abbrev pub decreases-pair : goal.decreases-pair
decreases-pair l = 3 * l.depth.room + 2

abbrev pub decreases-second : goal.decreases-second
decreases-second l = 3 * l.depth.room + 1
