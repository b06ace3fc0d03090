-- How a program is written: the grammar of formula texts.
use Rattle.std.specs.Prelude.{ℕ, List, [], ◌∷◌, ◌++◌, decimal}
use Rattle.rules.specs.declared.formula.Atom as atoms
use Rattle.rules.specs.declared.formula.Atom.TheVariants as a
use Rattle.rules.specs.declared.formula.Target as targets
use Rattle.rules.specs.declared.formula.Target.TheVariants as t
use Rattle.rules.specs.Codes.{sign_byte}
use Rattle.rules.specs.Tree.{Operand, atom, pair, Side, reading, single, both, Line, Program}

-- `@` stands before the variable that points
abbrev pub written_atom : atoms.Atom → List ℕ
written_atom (a.Variable v) = v ∷ []
written_atom (a.Pointed v) = 64 ∷ (v ∷ [])
written_atom (a.Letter g) = g ∷ []
written_atom (a.Constant n) = decimal n

-- a pair that is an operand stands between `(` and `)`
abbrev pub written : Operand → List ℕ
written (atom x) = written_atom x
written (pair l s r) = 40 ∷ (written l ++ (sign_byte s ∷ (written r ++ (41 ∷ []))))

-- `?` is a reading
abbrev pub written_side : Side → List ℕ
written_side reading = 63 ∷ []
written_side (single x) = written_atom x
written_side (both l s r) = written l ++ (sign_byte s ∷ written r)

-- `?` is the label, `#` the place register
abbrev pub written_target : targets.Target → List ℕ
written_target (t.Variable v) = v ∷ []
written_target (t.Pointed v) = 64 ∷ (v ∷ [])
written_target t.Label = 63 ∷ []
written_target t.Place = 35 ∷ []

-- group letter, comma, side, comma, target
abbrev pub written_line : Line → List ℕ
written_line k = k.group ∷ (44 ∷ (written_side k.side ++ (44 ∷ written_target k.target)))

-- each line is ended by byte 10
abbrev pub written_text : Program → List ℕ
written_text [] = []
written_text (k ∷ ks) = written_line k ++ (10 ∷ written_text ks)
