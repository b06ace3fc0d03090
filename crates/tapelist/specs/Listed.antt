-- A tape, or a refusal, that a text compiles to.
use Rattle.std.specs.Prelude.{◌≡◌, ℕ, List, [], ◌∷◌, ◌++◌, vec_items, Result, Vec, MatchResult}
use Rattle.std.specs.declared.alloc.Global.{Global}
use Rattle.rules.specs.declared.refusal.Report.{Report}
use Rattle.rules.specs.declared.refusal.TextRefusal.{TextRefusal}
use Rattle.rules.specs.Refusals.{report_text, reported}
use Rattle.rules.specs.Compiled.{Outcome, tape, refuse}

abbrev pub Listed : Outcome → Result (Vec ℕ Global) TextRefusal → Type 0
Listed x a = MatchResult a (λ v. x ≡ tape (vec_items v)) (λ e. x ≡ refuse (reported e))

-- the line for a refusal: its number, line and place
abbrev pub refusal_line : Report → List ℕ
refusal_line r = report_text r ++ (10 ∷ [])
