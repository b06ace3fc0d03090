-- Reading the lines again: what is left of the text gives what is left to do.
-- The first reading showed that each line can be read, so cutting off one line takes one line off the program.
use Rattle.std.proofs.Common.{◌≡◌, ℕ, suc, ◌≤◌, false, List, [], ◌∷◌, ◌++◌, length, drop, sym, ap, ◌∙◌, subst}
use Rattle.rules.specs.declared.refusal.Fault.{Fault}
use Rattle.rules.specs.Tree.{Line}
use Rattle.rules.specs.Reading.{got, fails, line_read}
use Rattle.rules.specs.Texts.{Text, tail, line}
use Rattle.rules.specs.Mentions.{Mention, program_mentions}
use Rattle.compiler.specs.Lines.{read_lines, Readable}
use Rattle.compiler.specs.Scan.{scan}
use Rattle.laws.proofs.Lines.{read_short}
use Rattle.compiler.proofs.Scanned.{line_scans}

pub record Parts (p : List ℕ) (t : Text) : Type 0 where
  pub k : Line
  pub is : line_read p ≡ got k []
  pub more : Readable t

parts : (p : List ℕ) (t : Text) → Readable (line p t) → Parts p t
unfolding Readable
parts p t r = record { k = r.0.0; is = r.0.1; more = r.1 }

pub readable_parts : (x : Text) (p : List ℕ) (t : Text) → x ≡ line p t → Readable x → Parts p t
readable_parts x p t e r = parts p t (subst Readable e r)

pub parts_short : (p : List ℕ) (t : Text) → Parts p t → length p ≤ 80
parts_short p t q = (read_short p [] q.k q.is).0

pub lines_got : (x : Text) (p : List ℕ) (t : Text) (k : Line) (rest : List ℕ) → x ≡ line p t → line_read p ≡ got k rest → read_lines x ≡ k ∷ read_lines t
unfolding read_lines
lines_got x p t k rest e f = rw (e, f)

pub lines_fails : (x : Text) (p : List ℕ) (t : Text) (f : Fault) (left : ℕ) → x ≡ line p t → line_read p ≡ fails f left → read_lines x ≡ read_lines t
unfolding read_lines
lines_fails x p t f left e h = rw (e, h)

pub lines_tail : (x : Text) (p : List ℕ) → x ≡ tail p → read_lines x ≡ []
unfolding read_lines
lines_tail x p e = rw e

-- a line's letters and constants, then those of the lines below
pub mentions_line : (x : Text) (p : List ℕ) (t : Text) (l : ℕ) → x ≡ line p t → Parts p t → program_mentions l (read_lines x) ≡ scan l false 3 (drop 2 p) ++ program_mentions (suc l) (read_lines t)
mentions_line x p t l e q = ap (program_mentions l) (lines_got x p t q.k [] e q.is) ∙ ap (λ (o : List Mention). o ++ program_mentions (suc l) (read_lines t)) (sym (line_scans l p [] q.k q.is))
