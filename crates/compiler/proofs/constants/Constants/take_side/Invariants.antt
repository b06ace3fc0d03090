use Rattle.std.proofs.Common.{◌+◌, false, drop}
use Rattle.compiler.specs.Held.{table}
use Rattle.compiler.specs.Scan.{scan}
use Rattle.compiler.specs.Mentioned.{Alike}
use Rattle.compiler.proofs.constants.Constants.take_side.Given as goal

-- scanning on from here gives what scanning from the start gives
abbrev pub invariant-loop-i : goal.invariant-loop-i
invariant-loop-i l = Alike (scan l.line false 3 l.side) (table l.initial.self) (scan l.line l.inside (3 + l.i) (drop l.i l.side)) (table l.self)
