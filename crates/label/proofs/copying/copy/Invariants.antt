use Rattle.std.proofs.Common.{◌≡◌, take}
use Rattle.label.proofs.copying.copy.Given as goal

-- so many codes have been copied
abbrev pub invariant-loop-index : goal.invariant-loop-index
invariant-loop-index g l = g.B.LabelLine.codes l.to ≡ take l.index (g.A.LabelLine.codes l.from)
