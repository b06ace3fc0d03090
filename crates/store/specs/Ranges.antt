-- What both kinds of store keep, from their making on.
use Rattle.std.specs.Prelude.{◌≡◌, ℕ, ◌<◌, List, length, slice_index}
use Rattle.rules.specs.Stores.{cell_count, number_limit}

-- a thousand numbers, each below 10^14
abbrev pub Cells : List ℕ → Type 0
Cells cs = (length cs ≡ cell_count) × ((i : ℕ) → slice_index cs i < number_limit)
