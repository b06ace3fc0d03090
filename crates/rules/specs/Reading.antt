-- Which line some bytes are, or where reading fails and why.
use Rattle.std.specs.Prelude.{ℕ, zero, suc, ◌+◌, ◌-◌, ◌*◌, ◌<◌, ◌≤◌, Bool, true, false, cond, not, ◌&&◌, ◌||◌, List, [], ◌∷◌, length, take, drop, Some, None, fold, Option, ◌==◌, nat_le, slice_index}
use Rattle.std.specs.List.{prefix_len}
use Rattle.rules.specs.declared.sign.Sign.{Sign}
use Rattle.rules.specs.declared.formula.Atom as atoms
use Rattle.rules.specs.declared.formula.Atom.TheVariants as a
use Rattle.rules.specs.declared.formula.Target as targets
use Rattle.rules.specs.declared.formula.Target.TheVariants as t
use Rattle.rules.specs.declared.formula.Start as starts
use Rattle.rules.specs.declared.formula.Start.TheVariants as s
use Rattle.rules.specs.declared.refusal.Fault.{Fault}
use Rattle.rules.specs.declared.refusal.Fault.TheVariants.{LineEndMissing, ByteOutOfPlace, BadConstant, NestedTooDeep}
use Rattle.rules.specs.Codes.{code_table, sign_of}
use Rattle.rules.specs.Tree.{Operand, atom, pair, Side, reading, single, both, Line}

-- what was read and the bytes that are left, or why reading fails and how many bytes are left there
pub data Read (X : Type 0) : Type 0 where
  got : X → List ℕ → Read X
  fails : Fault → ℕ → Read X

abbrev pub onward : {X Y : Type 0} → Read X → (X → List ℕ → Read Y) → Read Y
onward (got x rest) f = f x rest
onward (fails e left) f = fails e left

-- the first byte; 0, which begins nothing, past the end
abbrev pub first : List ℕ → ℕ
first xs = slice_index xs 0

abbrev pub between : ℕ → ℕ → ℕ → Bool
between low high b = nat_le low b && nat_le b high

abbrev pub is_digit : ℕ → Bool
is_digit b = between 48 57 b

-- what a byte can begin: `(`, a to z, `@`, A to Z, 0 to 9
abbrev pub start : ℕ → starts.Start
start b = cond (b == 40) s.Parenthesis (cond (between 97 122 b) s.Variable (cond (b == 64) s.Pointer (cond (between 65 90 b) s.Letter (cond (is_digit b) s.Digit s.Other))))

-- how many digits the bytes begin with
abbrev pub digit_run : List ℕ → ℕ
digit_run xs = prefix_len is_digit xs

-- each byte is a digit
abbrev pub Digits : List ℕ → Type 0
Digits ds = (k : ℕ) → k < length ds → (48 ≤ slice_index ds k) × (slice_index ds k ≤ 57)

-- the number that digits write
abbrev pub number_of : List ℕ → ℕ
number_of ds = fold (λ n d. n * 10 + (d - 48)) 0 ds

-- 1 to 14 digits without a needless leading zero
abbrev pub proper : List ℕ → Bool
proper xs = nat_le (digit_run xs) 14 && (nat_le (digit_run xs) 1 || not (first xs == 48))

abbrev pub constant_if : Bool → List ℕ → Read ℕ
constant_if true xs = got (number_of (take (digit_run xs) xs)) (drop (digit_run xs) xs)
constant_if false xs = fails BadConstant (length xs)

-- a constant is the whole run of digits that stands there
abbrev pub constant_at : List ℕ → Read ℕ
constant_at xs = constant_if (proper xs) xs

-- a letter of the alphabet that begins with a byte
abbrev pub letter_from : ℕ → List ℕ → Read ℕ
letter_from a xs = elim (between a (a + 25) (first xs)) [ true ↦ got (first xs) (drop 1 xs) | false ↦ fails ByteOutOfPlace (length xs) ]

abbrev pub variable_at : List ℕ → Read ℕ
variable_at xs = letter_from 97 xs

abbrev pub byte_at : ℕ → List ℕ → Read ℕ
byte_at b xs = elim (first xs == b) [ true ↦ got b (drop 1 xs) | false ↦ fails ByteOutOfPlace (length xs) ]

abbrev pub sign_if : Option Sign → List ℕ → Read Sign
sign_if (Some x) xs = got x (drop 1 xs)
sign_if None xs = fails ByteOutOfPlace (length xs)

abbrev pub sign_at : List ℕ → Read Sign
sign_at xs = sign_if (sign_of (first xs) code_table) xs

-- a sign and an operand, by a reader of operands
abbrev pub second_by : (List ℕ → Read Operand) → List ℕ → Read (Sign × Operand)
second_by operand xs = onward (sign_at xs) (λ x ys. onward (operand ys) (λ r zs. got (x, r) zs))

-- a pair holds an operand, a sign and an operand
abbrev pub pair_by : (List ℕ → Read Operand) → List ℕ → Read Operand
pair_by operand xs = onward (operand xs) (λ l ys. onward (second_by operand ys) (λ q zs. got (pair l q.0 q.1) zs))

-- after `(` a pair, and then `)`
abbrev pub closed_by : (List ℕ → Read Operand) → List ℕ → Read Operand
closed_by operand xs = onward (pair_by operand xs) (λ p ys. onward (byte_at 41 ys) (λ _ zs. got p zs))

-- an operand is what its first byte says; `inside` reads one that begins with a parenthesis
abbrev pub operand_on : (List ℕ → Read Operand) → starts.Start → List ℕ → Read Operand
operand_on inside s.Parenthesis xs = inside xs
operand_on inside s.Variable xs = got (atom (a.Variable (first xs))) (drop 1 xs)
operand_on inside s.Pointer xs = onward (variable_at (drop 1 xs)) (λ v ys. got (atom (a.Pointed v)) ys)
operand_on inside s.Letter xs = got (atom (a.Letter (first xs))) (drop 1 xs)
operand_on inside s.Digit xs = onward (constant_at xs) (λ n ys. got (atom (a.Constant n)) ys)
operand_on inside s.Other xs = fails ByteOutOfPlace (length xs)

abbrev pub operand_by : (List ℕ → Read Operand) → List ℕ → Read Operand
operand_by inside xs = operand_on inside (start (first xs)) xs

-- an operand that begins with a parenthesis, where so many may still be opened
unfoldable pub inside_at : ℕ → List ℕ → Read Operand
inside_at zero xs = fails NestedTooDeep (length xs)
inside_at (suc n) xs = closed_by (operand_by (inside_at n)) (drop 1 xs)

unfoldable pub operand_at : ℕ → List ℕ → Read Operand
operand_at n xs = operand_by (inside_at n) xs

abbrev pub pair_at : ℕ → List ℕ → Read Operand
pair_at n xs = pair_by (operand_at n) xs

abbrev pub second_at : ℕ → List ℕ → Read (Sign × Operand)
second_at n xs = second_by (operand_at n) xs

-- how many parentheses may be open at once
abbrev pub depth_limit : ℕ
depth_limit = 16

-- one atom stands alone before a comma; else a pair goes on
abbrev pub single_on : Bool → atoms.Atom → List ℕ → Read Side
single_on true x xs = got (single x) xs
single_on false x xs = onward (second_at depth_limit xs) (λ q ys. got (both (atom x) q.0 q.1) ys)

abbrev pub side_after : Operand → List ℕ → Read Side
side_after (atom x) xs = single_on (first xs == 44) x xs
side_after (pair l x r) xs = onward (second_at depth_limit xs) (λ q ys. got (both (pair l x r) q.0 q.1) ys)

abbrev pub side_on : Bool → List ℕ → Read Side
side_on true xs = got reading (drop 1 xs)
side_on false xs = onward (operand_at depth_limit xs) side_after

abbrev pub side_at : List ℕ → Read Side
side_at xs = side_on (first xs == 63) xs

abbrev pub letter_at : List ℕ → Read ℕ
letter_at xs = letter_from 65 xs

-- a line opens with a group letter and a comma
abbrev pub opening_at : List ℕ → Read ℕ
opening_at xs = onward (letter_at xs) (λ g ys. onward (byte_at 44 ys) (λ _ zs. got g zs))

abbrev pub target_on : starts.Start → List ℕ → Read targets.Target
target_on s.Parenthesis xs = fails ByteOutOfPlace (length xs)
target_on s.Variable xs = got (t.Variable (first xs)) (drop 1 xs)
target_on s.Pointer xs = onward (variable_at (drop 1 xs)) (λ v ys. got (t.Pointed v) ys)
target_on s.Letter xs = fails ByteOutOfPlace (length xs)
target_on s.Digit xs = fails ByteOutOfPlace (length xs)
target_on s.Other xs = elim (first xs == 63) [ true ↦ got t.Label (drop 1 xs) | false ↦ elim (first xs == 35) [ true ↦ got t.Place (drop 1 xs) | false ↦ fails ByteOutOfPlace (length xs) ] ]

abbrev pub target_at : List ℕ → Read targets.Target
target_at xs = target_on (start (first xs)) xs

-- nothing is left but the line end
abbrev pub end_at : Line → List ℕ → Read Line
end_at k [] = got k []
end_at k (x ∷ xs) = fails ByteOutOfPlace (length (x ∷ xs))

-- the bytes of a line without its line end
abbrev pub line_at : List ℕ → Read Line
line_at xs = onward (opening_at xs) (λ g ys. onward (side_at ys) (λ z zs. onward (byte_at 44 zs) (λ _ us. onward (target_at us) (λ u vs. end_at (record { group = g; side = z; target = u }) vs))))

-- how many bytes may stand before a line end
abbrev pub line_limit : ℕ
line_limit = 80

-- a line's length is judged before it is read: past the limit, the line end is missing at the next place
abbrev pub line_read : List ℕ → Read Line
line_read xs = cond (nat_le (length xs) line_limit) (line_at xs) (fails LineEndMissing (length xs - line_limit))
