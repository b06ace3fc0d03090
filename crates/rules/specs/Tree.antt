-- A program as a tree: lines, each with its group letter, its side and its target.
use Rattle.std.specs.Prelude.{ℕ, List}
use Rattle.rules.specs.declared.sign.Sign.{Sign}
use Rattle.rules.specs.declared.formula.Atom.{Atom}
use Rattle.rules.specs.declared.formula.Target.{Target}

-- an operand is an atom, or again a pair in parentheses
pub data Operand : Type 0 where
  atom : Atom → Operand
  pair : Operand → Sign → Operand → Operand

-- a side is a reading, one atom, or a pair
pub data Side : Type 0 where
  reading : Side
  single : Atom → Side
  both : Operand → Sign → Operand → Side

pub record Line : Type 0 where
  pub group : ℕ
  pub side : Side
  pub target : Target

abbrev pub Program : Type 0
Program = List Line
