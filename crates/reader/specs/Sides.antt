-- What the readers of a side and of a line's parts answer, and which operations the reader then holds.
use Rattle.std.specs.Prelude.{◌≡◌, ℕ, cond, List, [], Some, None, Option, Result, MatchResult, ◌==◌}
use Rattle.rules.specs.declared.formula.Atom.{Atom}
use Rattle.rules.specs.declared.operation.Source.{Source}
use Rattle.rules.specs.declared.operation.Source.TheVariants.{Named, Temporary}
use Rattle.rules.specs.declared.operation.SideKind.{SideKind}
use Rattle.rules.specs.declared.operation.LineParts.{LineParts}
use Rattle.rules.specs.Tree.{Side, Line}
use Rattle.rules.specs.Reading.{Read, got, fails, first}
use Rattle.rules.specs.Operations.{side_kind, side_operations, line_parts}
use Rattle.reader.specs.declared.failure.Failure.{Failure}
use Rattle.reader.specs.declared.pairs.LineReader.{LineReader}

-- the atom that stands alone before a comma
abbrev pub alone : Source → List ℕ → Option Atom
alone (Named x) xs = cond (first xs == 44) (Some x) None
alone (Temporary t) xs = None

abbrev pub SideRead : Read Side → Result SideKind Failure → LineReader → Type 0
SideRead x r after = MatchResult r (λ d. (z : Side) × (x ≡ got z after.cursor.rest.now) × (d ≡ side_kind z) × (after.operations.items ≡ side_operations z)) (λ e. x ≡ fails e.fault e.left)

abbrev pub PartsRead : Read Line → Result LineParts Failure → LineReader → Type 0
PartsRead x r after = MatchResult r (λ k. (l : Line) × (x ≡ got l []) × (k ≡ line_parts l) × (after.operations.items ≡ side_operations l.side)) (λ e. x ≡ fails e.fault e.left)
