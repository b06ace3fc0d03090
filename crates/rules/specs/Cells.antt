-- Where things stand among the thousand cells of a store.
use Rattle.std.specs.Prelude.{ℕ, ◌+◌, ◌-◌, List}
use Rattle.rules.specs.declared.formula.Atom as atoms
use Rattle.rules.specs.declared.formula.Atom.TheVariants as a
use Rattle.rules.specs.declared.formula.Target as targets
use Rattle.rules.specs.declared.formula.Target.TheVariants as t
use Rattle.rules.specs.declared.operation.Source.{Source}
use Rattle.rules.specs.declared.operation.Source.TheVariants.{Named, Temporary}
use Rattle.rules.specs.Mentions.{place_of}

-- 2 to 27 are a to z
abbrev pub variable_cell : ℕ → ℕ
variable_cell v = 2 + (v - 97)

-- 28 to 53 are A to Z
abbrev pub letter_cell : ℕ → ℕ
letter_cell g = 28 + (g - 65)

-- 54 to 99 are the different constants in order of first appearance
abbrev pub constant_cell : ℕ → ℕ
constant_cell i = 54 + i

-- 500 to 515 hold results that wait
abbrev pub temporary_cell : ℕ → ℕ
temporary_cell t = 500 + t

-- an address from 1000 on points: the number in the cell 1000 lower names a data cell
abbrev pub pointed : ℕ → ℕ
pointed c = 1000 + c

-- addresses of the place register, the reading organ as an operand and the label as a result
abbrev pub place_address : ℕ
place_address = 0

abbrev pub reading_address : ℕ
reading_address = 1

abbrev pub label_address : ℕ
label_address = 1

abbrev pub atom_address : List ℕ → atoms.Atom → ℕ
atom_address cs (a.Variable v) = variable_cell v
atom_address cs (a.Pointed v) = pointed (variable_cell v)
atom_address cs (a.Letter g) = letter_cell g
atom_address cs (a.Constant n) = constant_cell (place_of n cs)

abbrev pub source_address : List ℕ → Source → ℕ
source_address cs (Named x) = atom_address cs x
source_address cs (Temporary t) = temporary_cell t

abbrev pub target_address : targets.Target → ℕ
target_address (t.Variable v) = variable_cell v
target_address (t.Pointed v) = pointed (variable_cell v)
target_address t.Label = label_address
target_address t.Place = place_address
