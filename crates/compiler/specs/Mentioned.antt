-- What going over the letters and constants of a text says of them.
use Rattle.std.specs.Prelude.{◌≡◌, ◌-◌, ℕ, Bool, false, cond, not, List, [], Some, None, Result, MatchResult, slice_index_or}
use Rattle.rules.specs.declared.refusal.TextRefusal.{TextRefusal}
use Rattle.rules.specs.Refusals.{reported}
use Rattle.rules.specs.Tree.{Program}
use Rattle.rules.specs.Reading.{between}
use Rattle.rules.specs.Mentions.{Mention, different, first_loose, first_past}
use Rattle.compiler.specs.declared.groups.Groups.{Groups}
use Rattle.compiler.specs.declared.constants.Constants.{Constants}
use Rattle.compiler.specs.Held.{table}
use Rattle.compiler.specs.Counted.{Marks}

-- a letter without group
abbrev pub lacks : Groups → ℕ → Bool
lacks g x = cond (between 65 90 x) (not (slice_index_or g.seen (x - 65) false)) false

-- each letter has a group, or the first that has none is refused
abbrev pub Lettered : List Mention → Groups → Result (Unit {0}) TextRefusal → Type 0
Lettered ms g r = (ks : Program) → Marks g ks → MatchResult r (λ _. first_loose ks ms ≡ None) (λ e. first_loose ks ms ≡ Some (reported e))

-- meeting these mentions after some constants comes to meeting others after other constants
abbrev pub Alike : List Mention → List ℕ → List Mention → List ℕ → Type 0
Alike ms before ns after = (first_past ms before ≡ first_past ns after) × (different ms before ≡ different ns after)

-- each constant was taken in, or the first without place is refused
abbrev pub Taken : List Mention → List ℕ → Result (Unit {0}) TextRefusal → List ℕ → Type 0
Taken ms before r after = MatchResult r (λ _. (first_past ms before ≡ None) × (after ≡ different ms before)) (λ e. first_past ms before ≡ Some (reported e))

-- the same of the first of some mentions
abbrev pub TakenFirst : (List Mention → List Mention) → List ℕ → Result (Unit {0}) TextRefusal → List ℕ → Type 0
TakenFirst ms before r after = MatchResult r (λ _. (more : List Mention) → Alike (ms more) before more after) (λ e. (more : List Mention) → first_past (ms more) before ≡ Some (reported e))

-- a whole text's constants
abbrev pub TakenAll : List Mention → Result Constants TextRefusal → Type 0
TakenAll ms r = MatchResult r (λ cs. (first_past ms [] ≡ None) × (table cs ≡ different ms [])) (λ e. first_past ms [] ≡ Some (reported e))
