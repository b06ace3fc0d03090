-- Which programs are well formed, in the words of whoever types them.
use Rattle.std.specs.Prelude.{◌≡◌, ℕ, zero, suc, ◌^◌, ◌<◌, ◌≤◌, false, ◌⊎◌, List, [], ◌∷◌, ◌++◌, length}
use Rattle.std.specs.List.{AllByRecursion}
use Rattle.rules.specs.declared.formula.Atom as atoms
use Rattle.rules.specs.declared.formula.Atom.TheVariants as a
use Rattle.rules.specs.declared.formula.Target as targets
use Rattle.rules.specs.declared.formula.Target.TheVariants as t
use Rattle.rules.specs.Tree.{Operand, atom, pair, Side, reading, single, both, Line, Program}
use Rattle.rules.specs.Written.{written_line, written_text}
use Rattle.rules.specs.Reading.{depth_limit, line_limit}
use Rattle.rules.specs.Texts.{closes, text_limit}
use Rattle.rules.specs.Mentions.{Mention, program_mentions, constants_of, constant_limit}
use Rattle.rules.specs.Operations.{instructions, instruction_limit}

-- the byte of a variable, a to z
abbrev pub IsVariable : ℕ → Type 0
IsVariable v = (97 ≤ v) × (v ≤ 122)

-- the byte of a group letter, A to Z
abbrev pub IsLetter : ℕ → Type 0
IsLetter g = (65 ≤ g) × (g ≤ 90)

abbrev pub GoodAtom : atoms.Atom → Type 0
GoodAtom (a.Variable v) = IsVariable v
GoodAtom (a.Pointed v) = IsVariable v
GoodAtom (a.Letter g) = IsLetter g
GoodAtom (a.Constant n) = n < 10 ^ 14

-- at most so many parentheses inside one another
abbrev pub GoodOperand : ℕ → Operand → Type 0
GoodOperand n (atom x) = GoodAtom x
GoodOperand zero (pair l s r) = ⊥
GoodOperand (suc n) (pair l s r) = GoodOperand n l × GoodOperand n r

abbrev pub GoodSide : Side → Type 0
GoodSide reading = Unit {0}
GoodSide (single x) = GoodAtom x
GoodSide (both l s r) = GoodOperand depth_limit l × GoodOperand depth_limit r

abbrev pub GoodTarget : targets.Target → Type 0
GoodTarget (t.Variable v) = IsVariable v
GoodTarget (t.Pointed v) = IsVariable v
GoodTarget t.Label = Unit {0}
GoodTarget t.Place = Unit {0}

pub record GoodLine (k : Line) : Type 0 where
  pub group : IsLetter k.group
  pub side : GoodSide k.side
  pub target : GoodTarget k.target

-- what stands on a line after the group letter
pub record Formula : Type 0 where
  pub side : Side
  pub target : targets.Target

-- a group: its letter, the formulas before its last, and the side of its last, whose target is `#`
pub record Group : Type 0 where
  pub letter : ℕ
  pub formulas : List Formula
  pub last : Side

abbrev pub formula_lines : ℕ → List Formula → Side → Program
formula_lines g [] z = record { group = g; side = z; target = t.Place } ∷ []
formula_lines g (f ∷ fs) z = record { group = g; side = f.side; target = f.target } ∷ formula_lines g fs z

-- the lines of a group stand together
abbrev pub group_lines : List Group → Program
group_lines [] = []
group_lines (g ∷ gs) = formula_lines g.letter g.formulas g.last ++ group_lines gs

abbrev pub letters : List Group → List ℕ
letters [] = []
letters (g ∷ gs) = g.letter ∷ letters gs

abbrev pub In : ℕ → List ℕ → Type 0
In g [] = ⊥
In g (x ∷ xs) = (g ≡ x) ⊎ In g xs

abbrev pub Distinct : List ℕ → Type 0
Distinct [] = Unit {0}
Distinct (x ∷ xs) = (In x xs → ⊥) × Distinct xs

-- no formula before a group's last has target `#`
abbrev pub Inner : Group → Type 0
Inner g = AllByRecursion (λ (f : Formula). closes f.target ≡ false) g.formulas

-- a letter that is mentioned is one of these
abbrev pub LetterIn : List ℕ → atoms.Atom → Type 0
LetterIn gs (a.Variable v) = Unit {0}
LetterIn gs (a.Pointed v) = Unit {0}
LetterIn gs (a.Letter g) = In g gs
LetterIn gs (a.Constant n) = Unit {0}

pub record WellFormed (ks : Program) : Type 0 where
  pub groups : List Group
  pub lines : ks ≡ group_lines groups
  pub more : List ℕ
  pub first_a : letters groups ≡ 65 ∷ more
  pub distinct : Distinct (letters groups)
  pub inner : AllByRecursion Inner groups
  pub good : AllByRecursion GoodLine ks
  pub short : AllByRecursion (λ (k : Line). length (written_line k) ≤ line_limit) ks
  pub grouped : AllByRecursion (λ (m : Mention). LetterIn (letters groups) m.what) (program_mentions 1 ks)
  pub constants : length (constants_of ks) ≤ constant_limit
  pub few : instructions ks ≤ instruction_limit
  pub brief : length (written_text ks) ≤ text_limit
