-- What is known of a text once it is judged.
use Rattle.std.specs.Prelude.{◌≡◌, ℕ, List, length, Result, MatchResult}
use Rattle.rules.specs.declared.refusal.TextRefusal.{TextRefusal}
use Rattle.rules.specs.Refusals.{reported}
use Rattle.rules.specs.Texts.{cut}
use Rattle.rules.specs.Words.{tape_of}
use Rattle.rules.specs.Compiled.{compiled, tape, refuse}
use Rattle.compiler.specs.declared.compiling.Plan.{Plan}
use Rattle.compiler.specs.Held.{table}
use Rattle.compiler.specs.Lines.{read_lines, Readable}

pub record Ready (text : List ℕ) (p : Plan) : Type 0 where
  pub is : compiled text ≡ tape (tape_of (table p.constants) (read_lines (cut text)))
  pub readable : Readable (cut text)
  pub length : p.length ≡ length (tape_of (table p.constants) (read_lines (cut text)))

abbrev pub Planned : List ℕ → Result Plan TextRefusal → Type 0
Planned text r = MatchResult r (Ready text) (λ e. compiled text ≡ refuse (reported e))
