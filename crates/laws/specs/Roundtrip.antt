-- Reading undoes writing, and writing undoes reading.
use Rattle.std.specs.Prelude.{◌≡◌, ℕ, List, [], ◌++◌}
use Rattle.rules.specs.Tree.{Operand, Line}
use Rattle.rules.specs.Written.{written, written_line}
use Rattle.rules.specs.Reading.{got, digit_run, operand_at, line_at}
use Rattle.rules.specs.Programs.{GoodOperand, GoodLine}

-- every operand that the grammar writes is read, and as what was written, before what is no digit
abbrev pub OperandsRead : Type 0
OperandsRead = (x : Operand) (n : ℕ) (rest : List ℕ) → GoodOperand n x → digit_run rest ≡ 0 → operand_at n (written x ++ rest) ≡ got x rest

-- what is read as an operand is what the grammar writes
abbrev pub OperandsWritten : Type 0
OperandsWritten = (n : ℕ) (xs rest : List ℕ) (x : Operand) → operand_at n xs ≡ got x rest → GoodOperand n x × (xs ≡ written x ++ rest)

-- every line that the grammar writes is read, and as what was written
abbrev pub LinesRead : Type 0
LinesRead = (k : Line) → GoodLine k → line_at (written_line k) ≡ got k []

-- what is read as a line is what the grammar writes
abbrev pub LinesWritten : Type 0
LinesWritten = (xs rest : List ℕ) (k : Line) → line_at xs ≡ got k rest → GoodLine k × (xs ≡ written_line k) × (rest ≡ [])
