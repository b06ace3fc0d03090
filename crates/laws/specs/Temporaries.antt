-- The cells for results that wait, 500 to 515, are enough for every line.
use Rattle.std.specs.Prelude.{◌≤◌, length}
use Rattle.std.specs.List.{AllByRecursion}
use Rattle.rules.specs.declared.operation.Source.{Source}
use Rattle.rules.specs.declared.operation.Source.TheVariants.{Named, Temporary}
use Rattle.rules.specs.declared.operation.Operation.{Operation}
use Rattle.rules.specs.Tree.{Line}
use Rattle.rules.specs.Written.{written_line}
use Rattle.rules.specs.Reading.{line_limit}
use Rattle.rules.specs.Operations.{side_operations}
use Rattle.rules.specs.Programs.{GoodLine}

-- an operand that waits is in a temporary from 0 to 15
abbrev pub FitsSource : Source → Type 0
FitsSource (Named x) = Unit {0}
FitsSource (Temporary t) = t ≤ 15

pub record FitsOperation (o : Operation) : Type 0 where
  pub left : FitsSource o.left
  pub right : FitsSource o.right
  pub result : o.result ≤ 15

-- no operation of a line asks for another temporary, as an operand or for its result
abbrev pub TemporariesFit : Type 0
TemporariesFit = (k : Line) → GoodLine k → length (written_line k) ≤ line_limit → AllByRecursion FitsOperation (side_operations k.side)

-- and a line has at most 19 operations
abbrev pub OperationsFew : Type 0
OperationsFew = (k : Line) → GoodLine k → length (written_line k) ≤ line_limit → length (side_operations k.side) ≤ 19
