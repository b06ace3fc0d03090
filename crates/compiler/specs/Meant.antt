-- What an answer says of the text, in the words of whoever typed it.
use Rattle.std.specs.Prelude.{◌≡◌, ℕ, List, take, Result, MatchResult}
use Rattle.rules.specs.declared.refusal.TextRefusal.{TextRefusal}
use Rattle.rules.specs.Refusals.{report, reported}
use Rattle.rules.specs.Tree.{Program}
use Rattle.rules.specs.Written.{written_text}
use Rattle.rules.specs.Mentions.{constants_of}
use Rattle.rules.specs.Words.{tape_of}
use Rattle.rules.specs.Programs.{WellFormed}

-- the text writes a well-formed program, and these words are its tape
abbrev pub Written : List ℕ → List ℕ → Type 0
Written text words = (ks : Program) × WellFormed ks × (text ≡ written_text ks) × (words ≡ tape_of (constants_of ks) ks)

-- an answer of n: the text is well formed and its tape stands at the front of the buffer, n words long;
-- a refusal: the text writes no well-formed program, or it does and the buffer is too short
abbrev pub Meant : List ℕ → List ℕ → Result ℕ TextRefusal → Type 0
Meant text buffer r = MatchResult r (λ n. Written text (take n buffer)) (λ e. (ks : Program) → WellFormed ks → text ≡ written_text ks → reported e ≡ report 10 0 0)
