-- What the survey holds of the lines above, the last one first.
use Rattle.std.specs.Prelude.{◌≡◌, ℕ, suc, ◌+◌, ◌-◌, ◌≤◌, false, List, [], ◌∷◌, ◌++◌, reverse, length, Some, None, Option, Result, MatchResult, slice_index_or}
use Rattle.rules.specs.declared.refusal.Report.{Report}
use Rattle.rules.specs.declared.refusal.TextRefusal.{TextRefusal}
use Rattle.rules.specs.Refusals.{report, reported}
use Rattle.rules.specs.Tree.{Line, Program}
use Rattle.rules.specs.Texts.{Text, tail, line, has, awaited, Parsed, program, refused, parsed_from}
use Rattle.rules.specs.Operations.{first_over}
use Rattle.rules.specs.Words.{code_words}
use Rattle.compiler.specs.declared.groups.Groups.{Groups}
use Rattle.compiler.specs.declared.survey.Survey.{Survey}

-- the groups' marks are those of these lines
pub record Marks (g : Groups) (ks : List Line) : Type 0 where
  pub size : length g.seen ≡ 26
  pub each : (k : ℕ) → 65 ≤ k → k ≤ 90 → slice_index_or g.seen (k - 65) false ≡ has ks k

abbrev pub last_group : List Line → Option ℕ
last_group [] = None
last_group (k ∷ ks) = Some k.group

-- the line of the first instruction past the limit, if it stands above, else what the lines below give
abbrev pub over_or : Option ℕ → Option Report → Option Report
over_or None below = below
over_or (Some l) below = Some (report 9 l 0)

pub record Counted (s : Survey) (above : List Line) : Type 0 where
  pub marks : Marks s.groups above
  pub next : s.groups.awaited ≡ awaited above
  pub lines : s.lines ≡ length above
  pub last : s.last ≡ last_group above
  pub over : (below : Program) → first_over 0 1 (reverse above ++ below) ≡ over_or s.over (first_over s.instructions (suc (length above)) below)
  pub words : (cs : List ℕ) (below : Program) → length (code_words cs None (reverse above ++ below)) ≡ s.heads + s.instructions + length (code_words cs (last_group above) below)

abbrev pub Added : List ℕ → Text → List Line → Result (Unit {0}) TextRefusal → Survey → Type 0
Added p t above r after = MatchResult r (λ _. (k : Line) × (parsed_from (line p t) above ≡ parsed_from t (k ∷ above)) × Counted after (k ∷ above)) (λ e. parsed_from (line p t) above ≡ refused (reported e))

abbrev pub Ended : List ℕ → List Line → Result (Unit {0}) TextRefusal → Type 0
Ended p above r = MatchResult r (λ _. parsed_from (tail p) above ≡ program (reverse above)) (λ e. parsed_from (tail p) above ≡ refused (reported e))

abbrev pub Surveyed : Parsed → Result Survey TextRefusal → Type 0
Surveyed x r = MatchResult r (λ s. (above : List Line) × (x ≡ program (reverse above)) × Counted s above × (s.lines ≤ 16384)) (λ e. x ≡ refused (reported e))
