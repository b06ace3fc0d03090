-- What the reader answers is what was to be read.
use Rattle.std.specs.Prelude.{◌≡◌, ℕ, ◌+◌, ◌-◌, ◌≤◌, List, [], length, IfErr, Result, MatchResult}
use Rattle.rules.specs.Tree.{Line}
use Rattle.rules.specs.Reading.{Read, got, fails, line_limit}
use Rattle.laws.specs.Places.{FirstPlace}
use Rattle.reader.specs.declared.failure.Failure.{Failure}
use Rattle.reader.specs.declared.failure.Misread.{Misread}
use Rattle.reader.specs.declared.line.ReadLine.{ReadLine}
use Rattle.reader.specs.Lines.{line_of}

-- the value, with these bytes left, or the failure
abbrev pub Reads : {X : Type 0} → Read X → Result X Failure → List ℕ → Type 0
Reads x r rest = MatchResult r (λ v. x ≡ got v rest) (λ e. x ≡ fails e.fault e.left)

-- the value, and one byte was used for it
abbrev pub ReadsOne : {X : Type 0} → Read X → Result X Failure → List ℕ → List ℕ → Type 0
ReadsOne x r before rest = MatchResult r (λ v. (x ≡ got v rest) × (length rest + 1 ≡ length before)) (λ e. x ≡ fails e.fault e.left)

-- of a line of so many bytes: what was read, or the fault and its place from 1
abbrev pub Told : ℕ → Read Line → Result ReadLine Misread → Type 0
Told n x r = MatchResult r (λ k. (l : Line) × (x ≡ got l []) × (k ≡ line_of l)) (λ e. (left : ℕ) × (x ≡ fails e.fault left) × (e.place ≡ n + 1 - left))

-- where a line of at most 80 bytes fails to be read: the bytes before the place begin some line, and with what stands at the place they begin none
abbrev pub First : List ℕ → Result ReadLine Misread → Type 0
First xs r = IfErr r (λ e. length xs ≤ line_limit → FirstPlace e.fault xs e.place)
