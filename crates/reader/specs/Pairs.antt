-- What the readers of operands and pairs answer, and which operations they add to those that are held.
use Rattle.std.specs.Prelude.{◌≡◌, ℕ, ◌+◌, ◌*◌, ◌≤◌, length, List, [], ◌∷◌, ◌++◌, Result, MatchResult}
use Rattle.rules.specs.declared.sign.Sign.{Sign}
use Rattle.rules.specs.declared.operation.Source.{Source}
use Rattle.rules.specs.declared.operation.Source.TheVariants.{Temporary}
use Rattle.rules.specs.declared.operation.Operation.{Operation}
use Rattle.rules.specs.Tree.{Operand}
use Rattle.rules.specs.Reading.{Read, got, fails}
use Rattle.rules.specs.Operations.{source, waiting_after, operation, operations}
use Rattle.reader.specs.declared.failure.Failure.{Failure}
use Rattle.arrayvec.specs.ArrayVec.{array_vec_len}
use Rattle.reader.specs.declared.pairs.LineReader.{LineReader}

-- four for each operation that is held, and one for each byte that is left
abbrev pub weight : LineReader → ℕ
weight c = 4 * array_vec_len c.operations + length c.cursor.rest.now

-- so many parentheses may be opened inside a pair, and so many results wait
abbrev pub Nested : ℕ → ℕ → Type 0
Nested room waiting = room + waiting ≤ 16

-- there is room for the operations of what is left
abbrev pub Spare : ℕ → LineReader → Type 0
Spare most c = weight c ≤ most

-- an operand: where it is found, with its operations added
abbrev pub OperandRead : Read Operand → ℕ → LineReader → Result Source Failure → LineReader → Type 0
OperandRead x w before r after = MatchResult r (λ p. (t : Operand) × (x ≡ got t after.cursor.rest.now) × (p ≡ source t w) × (after.operations.items ≡ before.operations.items ++ operations t w)) (λ e. x ≡ fails e.fault e.left)

-- what a sign and a right operand add after a left operand
abbrev pub added : Source → Sign → Operand → ℕ → List Operation
added left s r w = operations r (waiting_after left w) ++ (operation left s r w ∷ [])

abbrev pub SecondRead : Read (Sign × Operand) → Source → ℕ → LineReader → Result (Unit {0}) Failure → LineReader → Type 0
SecondRead x left w before r after = MatchResult r (λ _. (q : Sign × Operand) × (x ≡ got q after.cursor.rest.now) × (after.operations.items ≡ before.operations.items ++ added left q.0 q.1 w)) (λ e. x ≡ fails e.fault e.left)

abbrev pub PairRead : Read Operand → ℕ → LineReader → Result (Unit {0}) Failure → LineReader → Type 0
PairRead x w before r after = MatchResult r (λ _. (p : Operand) × (x ≡ got p after.cursor.rest.now) × (source p w ≡ Temporary w) × (after.operations.items ≡ before.operations.items ++ operations p w)) (λ e. x ≡ fails e.fault e.left)
