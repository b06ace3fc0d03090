use Rattle.std.proofs.Common.{◌≡◌, ◌+◌, ◌≤◌, List, [], length}
use Rattle.rules.specs.Tree.{Line}
use Rattle.rules.specs.Texts.{cut, parsed_from}
use Rattle.compiler.specs.Counted.{Counted}
use Rattle.compiler.proofs.survey.Survey.of.Given as goal

-- the lines above are counted, and reading on from here gives what reading from the start gives
abbrev pub invariant-loop-bytes : goal.invariant-loop-bytes
invariant-loop-bytes l = (l.found.lines + length l.lines.rest.now ≤ 16384) × ((above : List Line) × (parsed_from (cut l.text) [] ≡ parsed_from (cut l.lines.rest.now) above) × Counted l.found above)

abbrev pub decreases-loop-bytes : goal.decreases-loop-bytes
decreases-loop-bytes l = length l.lines.rest.now
