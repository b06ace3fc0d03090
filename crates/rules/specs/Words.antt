-- The words of a program, and its tape.
use Rattle.std.specs.Prelude.{ℕ, suc, ◌+◌, ◌*◌, ◌^◌, Bool, false, cond, List, [], ◌∷◌, ◌++◌, Some, None, Option, ◌==◌}
use Rattle.rules.specs.declared.operation.Operation.{Operation}
use Rattle.rules.specs.Codes.{code_of, transfer_code}
use Rattle.rules.specs.Tree.{Side, reading, single, both, Line, Program}
use Rattle.rules.specs.Operations.{side_operations}
use Rattle.rules.specs.Cells.{letter_cell, constant_cell, temporary_cell, reading_address, atom_address, source_address, target_address}

-- fourteen digits: first operand 4, code 2, second operand 4, result 4
unfoldable pub word : ℕ → ℕ → ℕ → ℕ → ℕ
word e1 c e2 er = e1 * 10 ^ 10 + c * 10 ^ 8 + e2 * 10 ^ 4 + er

abbrev pub operation_word : List ℕ → ℕ → Operation → ℕ
operation_word cs er o = word (source_address cs o.left) (code_of o.sign) (source_address cs o.right) er

-- the last operation's result goes to the target, any other's to its temporary
abbrev pub result_address : ℕ → Operation → List Operation → ℕ
result_address er o [] = er
result_address er o (p ∷ ps) = temporary_cell o.result

abbrev pub operation_words : List ℕ → ℕ → List Operation → List ℕ
operation_words cs er [] = []
operation_words cs er (o ∷ os) = operation_word cs (result_address er o os) o ∷ operation_words cs er os

-- a side without operation is a transfer
abbrev pub side_words : List ℕ → ℕ → Side → List ℕ
side_words cs er reading = word 0 transfer_code reading_address er ∷ []
side_words cs er (single x) = word 0 transfer_code (atom_address cs x) er ∷ []
side_words cs er (both l s r) = operation_words cs er (side_operations (both l s r))

abbrev pub line_words : List ℕ → Line → List ℕ
line_words cs k = side_words cs (target_address k.target) k.side

-- the second operand that marks a head: no operand has this address
abbrev pub head_mark : ℕ
head_mark = 999

-- a group's head names the cell of its letter
abbrev pub head_word : ℕ → ℕ
head_word g = word 0 transfer_code head_mark (letter_cell g)

-- the line above, if there is one, is of this group
abbrev pub same_group : Option ℕ → ℕ → Bool
same_group None g = false
same_group (Some a) g = g == a

-- a group begins where the line above is of another
abbrev pub head_if : Option ℕ → ℕ → List ℕ
head_if above g = cond (same_group above g) [] (head_word g ∷ [])

-- for each group the head and then its words; `above` is the letter of the line above
abbrev pub code_words : List ℕ → Option ℕ → Program → List ℕ
code_words cs above [] = []
code_words cs above (k ∷ ks) = head_if above k.group ++ (line_words cs k ++ code_words cs (Some k.group) ks)

-- the code of a word that a constant follows
abbrev pub constant_code : ℕ
constant_code = 11

abbrev pub end_word : ℕ
end_word = 0

-- for each constant, the i-th on, the word that names its cell and then the number
abbrev pub constant_words : ℕ → List ℕ → List ℕ
constant_words i [] = []
constant_words i (n ∷ ns) = word 0 constant_code 0 (constant_cell i) ∷ (n ∷ constant_words (suc i) ns)

-- constants, groups, the end word
unfoldable pub tape_of : List ℕ → Program → List ℕ
tape_of cs ks = constant_words 0 cs ++ (code_words cs None ks ++ (end_word ∷ []))
