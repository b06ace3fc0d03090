-- A text's lines, read one after another, and the rule of groups.
use Rattle.std.specs.Prelude.{ℕ, suc, ◌+◌, ◌-◌, Bool, true, false, cond, not, ◌||◌, List, [], ◌∷◌, reverse, length, Some, None, Option, ◌==◌, nat_le}
use Rattle.rules.specs.declared.formula.Target.{Target}
use Rattle.rules.specs.declared.formula.Target.TheVariants.{Variable, Pointed, Label, Place}
use Rattle.rules.specs.declared.refusal.Report.{Report}
use Rattle.rules.specs.Refusals.{report, reported, placed}
use Rattle.rules.specs.Tree.{Line, Program}
use Rattle.rules.specs.Reading.{Read, got, fails, line_read, line_limit}

-- a text as lines, each without its line end, and the bytes that no line end follows
pub data Text : Type 0 where
  tail : List ℕ → Text
  line : List ℕ → Text → Text

abbrev pub begun : ℕ → Text → Text
begun x (tail p) = tail (x ∷ p)
begun x (line p t) = line (x ∷ p) t

abbrev pub cut : List ℕ → Text
cut [] = tail []
cut (x ∷ xs) = cond (x == 10) (line [] (cut xs)) (begun x (cut xs))

abbrev pub text_limit : ℕ
text_limit = 16384

-- a line with target `#` closes its group
abbrev pub closes : Target → Bool
closes (Variable v) = false
closes (Pointed v) = false
closes Label = false
closes Place = true

-- one of these lines is of this group
abbrev pub has : List Line → ℕ → Bool
has [] g = false
has (k ∷ ks) g = k.group == g || has ks g

-- the only letter that may come after the lines above, the last one first; none where any new one may
abbrev pub awaited : List Line → Option ℕ
awaited [] = Some 65
awaited (k ∷ ks) = cond (closes k.target) None (Some k.group)

abbrev pub allowed_by : Option ℕ → List Line → ℕ → Bool
allowed_by None above g = not (has above g)
allowed_by (Some a) above g = g == a

abbrev pub allowed : List Line → ℕ → Bool
allowed above g = allowed_by (awaited above) above g

pub data Parsed : Type 0 where
  program : Program → Parsed
  refused : Report → Parsed

-- no group may be open
abbrev pub ended_by : Option ℕ → List Line → Parsed
ended_by None above = program (reverse above)
ended_by (Some a) above = refused (report 6 (suc (length above)) 0)

-- after the last line end nothing may stand
abbrev pub ended : List ℕ → List Line → Parsed
ended [] above = ended_by (awaited above) above
ended (x ∷ xs) above = refused (report 2 (suc (length above)) (cond (nat_le (length (x ∷ xs)) line_limit) (suc (length (x ∷ xs))) 81))

-- a line of so many bytes, by what reading it gave
abbrev pub on_line : (List Line → Parsed) → ℕ → Read Line → List Line → Parsed
on_line more n (got k rest) above = cond (allowed above k.group) (more (k ∷ above)) (refused (report 6 (suc (length above)) 1))
on_line more n (fails e left) above = refused (reported (placed e (suc (length above)) (n + 1 - left)))

-- the lines above stand last one first
unfoldable pub parsed_from : Text → List Line → Parsed
parsed_from (tail p) above = ended p above
parsed_from (line p t) above = on_line (parsed_from t) (length p) (line_read p) above

abbrev pub parsed : List ℕ → Parsed
parsed text = parsed_from (cut text) []
