-- What the survey asks of one line more, and what it keeps.
use Rattle.std.specs.Prelude.{ℕ, ◌-◌, Bool, false, cond, not, List, Some, None, Option, ◌==◌, slice_index_or}

-- a line of this group may come: the awaited letter, or where none is awaited one that was not seen
abbrev pub admits : Option ℕ → List Bool → ℕ → Bool
admits None seen g = not (slice_index_or seen (g - 65) false)
admits (Some a) seen g = g == a

-- the line of the first instruction past the limit, with line m more, which may still be within
abbrev pub over_with : Option ℕ → Bool → ℕ → Option ℕ
over_with None within m = cond within None (Some m)
over_with (Some l) within m = Some l
