-- What the place of a refusal says of a line.
use Rattle.std.specs.Prelude.{◌≡◌, ℕ, ◌+◌, ◌-◌, ◌<◌, ◌≤◌, false, List, [], ◌∷◌, ◌++◌, length, take, drop, filter, ◌≢◌, nat_eq, slice_index}
use Rattle.rules.specs.declared.refusal.Fault.{Fault}
use Rattle.rules.specs.declared.refusal.Fault.TheVariants.{LineEndMissing, ByteOutOfPlace, BadConstant, NestedTooDeep}
use Rattle.rules.specs.Tree.{Line}
use Rattle.rules.specs.Written.{written_line}
use Rattle.rules.specs.Reading.{fails, digit_run, proper, depth_limit, line_at}
use Rattle.rules.specs.Programs.{GoodLine}

-- the place, from 1 on, at which so many bytes are left
abbrev pub place_at : List ℕ → ℕ → ℕ
place_at xs left = length xs + 1 - left

-- the line end counts as a byte
abbrev pub with_end : List ℕ → List ℕ
with_end xs = xs ++ (10 ∷ [])

-- how often a byte stands among these
abbrev pub count_of : ℕ → List ℕ → ℕ
count_of b xs = length (filter (λ x. nat_eq x b) xs)

-- how many parentheses are open after these bytes
abbrev pub open_after : List ℕ → ℕ
open_after xs = count_of 40 xs - count_of 41 xs

-- some line is written with these bytes first
abbrev pub Begins : List ℕ → Type 0
Begins xs = (suffix : List ℕ) × (k : Line) × GoodLine k × (xs ++ suffix ≡ written_line k)

-- no line is written with these bytes first
abbrev pub BeginsNone : List ℕ → Type 0
BeginsNone xs = (suffix : List ℕ) (k : Line) → GoodLine k → xs ++ suffix ≢ written_line k

-- what stands at a place where a line is refused
abbrev pub Stands : Fault → List ℕ → ℕ → Type 0
Stands LineEndMissing xs p = ⊥
Stands ByteOutOfPlace xs p = BeginsNone (take p (with_end xs))
Stands BadConstant xs p = (0 < digit_run (drop (p - 1) xs)) × (proper (drop (p - 1) xs) ≡ false) × BeginsNone (take (p - 1) xs ++ take (digit_run (drop (p - 1) xs)) (drop (p - 1) xs))
Stands NestedTooDeep xs p = (slice_index xs (p - 1) ≡ 40) × (open_after (take (p - 1) xs) ≡ depth_limit) × BeginsNone (take p (with_end xs))

-- the bytes before the place begin some line, and what stands at the place does not let them
pub record FirstPlace (e : Fault) (xs : List ℕ) (p : ℕ) : Type 0 where
  pub low : 1 ≤ p
  pub high : p ≤ length xs + 1
  pub before : Begins (take (p - 1) (with_end xs))
  pub here : Stands e xs p

-- of the bytes of a line without its line end
abbrev pub PlacesAreFirst : Type 0
PlacesAreFirst = (xs : List ℕ) (e : Fault) (left : ℕ) → line_at xs ≡ fails e left → FirstPlace e xs (place_at xs left)
