-- A ring of sixteen slots.
use Rattle.std.specs.Prelude.{◌≡◌, ℕ, zero, suc, ◌+◌, ◌%◌, ◌<◌, ◌≤◌, List, [], ◌∷◌, length, slice_index}
use Rattle.rules.specs.Queues.{queue_limit}
use Rattle.rules.specs.Stores.{number_limit}

-- so many numbers, the first at a slot; behind the last slot comes the first again
abbrev pub round_from : List ℕ → ℕ → ℕ → List ℕ
round_from slots at zero = []
round_from slots at (suc count) = slice_index slots (at % queue_limit) ∷ round_from slots (at + 1) count

abbrev pub Ringed : List ℕ → ℕ → ℕ → Type 0
Ringed slots start count = (length slots ≡ queue_limit) × (start < queue_limit) × (count ≤ queue_limit) × ((i : ℕ) → slice_index slots i < number_limit)
