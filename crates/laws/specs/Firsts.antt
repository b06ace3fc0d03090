-- What the refusals say that are judged after all lines: each names the first that breaks its rule, and where it is written.
use Rattle.std.specs.Prelude.{◌≡◌, ℕ, suc, ◌<◌, ◌≤◌, true, false, List, [], ◌∷◌, ◌++◌, length, Some}
use Rattle.std.specs.List.{AllByRecursion}
use Rattle.rules.specs.declared.refusal.Report.{Report}
use Rattle.rules.specs.Refusals.{report}
use Rattle.rules.specs.Tree.{Line, Program}
use Rattle.rules.specs.Written.{written_atom, written_line}
use Rattle.rules.specs.Mentions.{Mention, program_mentions, grouped, first_loose, different, first_past, constant_limit}
use Rattle.rules.specs.Operations.{instructions, instruction_limit, first_over}

-- the bytes of a mention's atom stand from its place on, on the line of its number
pub record Stands (l : ℕ) (bytes : List ℕ) (m : Mention) : Type 0 where
  pub line : m.line ≡ l
  pub front : List ℕ
  pub back : List ℕ
  pub is : bytes ≡ front ++ (written_atom m.what ++ back)
  pub place : m.place ≡ suc (length front)

pub record Written (ks : Program) (m : Mention) : Type 0 where
  pub above : Program
  pub k : Line
  pub below : Program
  pub lines : ks ≡ above ++ (k ∷ below)
  pub stands : Stands (suc (length above)) (written_line k) m

-- each letter and constant is mentioned with the line and the place where it is written
abbrev pub MentionsWritten : Type 0
MentionsWritten = (ks : Program) → AllByRecursion (Written ks) (program_mentions 1 ks)

-- one of a list, such that something holds of those before it and no longer with it
pub record FirstIn {X : Type 0} (xs : List X) (Holds : List X → Type 0) (Breaks : List X → X → Type 0) : Type 0 where
  pub before : List X
  pub it : X
  pub after : List X
  pub is : xs ≡ before ++ (it ∷ after)
  pub holds : Holds before
  pub breaks : Breaks before it

-- 7 names a letter without group, and all letters before it have one
abbrev pub LettersFirst : Type 0
LettersFirst = (ks : Program) (ms : List Mention) (r : Report) → first_loose ks ms ≡ Some r → FirstIn ms (AllByRecursion (λ (m : Mention). grouped ks m.what ≡ true)) (λ before m. (grouped ks m.what ≡ false) × (r ≡ report 7 m.line m.place))

-- 8 names a constant with which there are too many different ones, and before it there were not
abbrev pub ConstantsFirst : Type 0
ConstantsFirst = (ms : List Mention) (r : Report) → first_past ms [] ≡ Some r → FirstIn ms (λ before. length (different before []) ≤ constant_limit) (λ before m. (constant_limit < length (different (before ++ (m ∷ [])) [])) × (r ≡ report 8 m.line m.place))

-- 9 names a line with which there are too many instructions, and above it there were not
abbrev pub InstructionsFirst : Type 0
InstructionsFirst = (ks : Program) (r : Report) → first_over 0 1 ks ≡ Some r → FirstIn ks (λ above. instructions above ≤ instruction_limit) (λ above k. (instruction_limit < instructions (above ++ (k ∷ []))) × (r ≡ report 9 (suc (length above)) 0))
