-- The lines of a text that can be read.
use Rattle.std.specs.Prelude.{◌≡◌, ℕ, Bool, not, [], ◌∷◌, ◌==◌}
use Rattle.rules.specs.Tree.{Line, Program}
use Rattle.rules.specs.Reading.{Read, got, fails, line_read}
use Rattle.rules.specs.Texts.{Text, tail, line}

abbrev pub in_line : ℕ → Bool
in_line b = not (b == 10)

abbrev pub onto : Read Line → Program → Program
onto (got k rest) ks = k ∷ ks
onto (fails e left) ks = ks

-- a line that cannot be read is passed over
unfoldable pub read_lines : Text → Program
read_lines (tail p) = []
read_lines (line p t) = onto (line_read p) (read_lines t)

-- each line can be read
unfoldable pub Readable : Text → Type 0
Readable (tail p) = Unit {0}
Readable (line p t) = ((k : Line) × (line_read p ≡ got k [])) × Readable t
