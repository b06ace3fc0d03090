-- The letters and constants of a program in the order of its text, each with its line and the place of its first byte.
use Rattle.std.specs.Prelude.{ℕ, suc, ◌+◌, Bool, true, cond, not, List, [], ◌∷◌, ◌++◌, length, Some, None, Option, ◌==◌, nat_le, nat_lt}
use Rattle.std.specs.List.{prefix_len}
use Rattle.rules.specs.declared.formula.Atom.{Atom}
use Rattle.rules.specs.declared.formula.Atom.TheVariants.{Variable, Pointed, Letter, Constant}
use Rattle.rules.specs.declared.refusal.Report.{Report}
use Rattle.rules.specs.Refusals.{report}
use Rattle.rules.specs.Tree.{Operand, atom, pair, Side, reading, single, both, Program}
use Rattle.rules.specs.Written.{written}
use Rattle.rules.specs.Texts.{has}

pub record Mention : Type 0 where
  pub line : ℕ
  pub place : ℕ
  pub what : Atom

abbrev pub mention : ℕ → ℕ → Atom → Mention
mention l p x = record { line = l; place = p; what = x }

-- on a line, from a place on
abbrev pub atom_mentions : ℕ → ℕ → Atom → List Mention
atom_mentions l p (Variable v) = []
atom_mentions l p (Pointed v) = []
atom_mentions l p (Letter g) = mention l p (Letter g) ∷ []
atom_mentions l p (Constant n) = mention l p (Constant n) ∷ []

abbrev pub mentions : ℕ → ℕ → Operand → List Mention
mentions l p (atom x) = atom_mentions l p x
mentions l p (pair x s y) = mentions l (suc p) x ++ mentions l (suc (suc p) + length (written x)) y

-- a side begins at place 3
abbrev pub side_mentions : ℕ → Side → List Mention
side_mentions l reading = []
side_mentions l (single x) = atom_mentions l 3 x
side_mentions l (both x s y) = mentions l 3 x ++ mentions l (4 + length (written x)) y

-- of lines that are numbered from l on
abbrev pub program_mentions : ℕ → Program → List Mention
program_mentions l [] = []
program_mentions l (k ∷ ks) = side_mentions l k.side ++ program_mentions (suc l) ks

-- a letter that is mentioned has a group
abbrev pub grouped : Program → Atom → Bool
grouped ks (Variable v) = true
grouped ks (Pointed v) = true
grouped ks (Letter g) = has ks g
grouped ks (Constant n) = true

abbrev pub first_loose : Program → List Mention → Option Report
first_loose ks [] = None
first_loose ks (m ∷ ms) = cond (grouped ks m.what) (first_loose ks ms) (Some (report 7 m.line m.place))

abbrev pub other : ℕ → ℕ → Bool
other n c = not (c == n)

-- how many constants stand before the first that equals n
abbrev pub place_of : ℕ → List ℕ → ℕ
place_of n cs = prefix_len (other n) cs

-- the constants with one more, where it is new
abbrev pub noted : List ℕ → ℕ → List ℕ
noted cs n = cond (nat_lt (place_of n cs) (length cs)) cs (cs ++ (n ∷ []))

abbrev pub noting : List ℕ → Atom → List ℕ
noting cs (Variable v) = cs
noting cs (Pointed v) = cs
noting cs (Letter g) = cs
noting cs (Constant n) = noted cs n

-- the different constants in order of first appearance, after those that are there
abbrev pub different : List Mention → List ℕ → List ℕ
different [] cs = cs
different (m ∷ ms) cs = different ms (noting cs m.what)

abbrev pub constants_of : Program → List ℕ
constants_of ks = different (program_mentions 1 ks) []

abbrev pub constant_limit : ℕ
constant_limit = 46

-- the first constant that finds no place among the constant cells
abbrev pub first_past : List Mention → List ℕ → Option Report
first_past [] cs = None
first_past (m ∷ ms) cs = cond (nat_le (length (noting cs m.what)) constant_limit) (first_past ms (noting cs m.what)) (Some (report 8 m.line m.place))
