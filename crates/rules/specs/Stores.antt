-- What a word store means: a thousand numbers, each below 10^14.
use Rattle.std.specs.Prelude.{ℕ, ◌^◌, cond, ◌&&◌, List, replicate, Ok, Err, Result, nat_lt, slice_index, slice_set}

abbrev pub cell_count : ℕ
cell_count = 1000

-- the first number that is too large for a cell, and for a reading
abbrev pub number_limit : ℕ
number_limit = 10 ^ 14

-- a cleared store; shut, since it would compute to a thousand zeros
unfoldable pub zeros : List ℕ
zeros = replicate cell_count 0

-- loading answers the cell, or 15 where there is no such cell
abbrev pub loaded : List ℕ → ℕ → Result ℕ ℕ
loaded cs a = cond (nat_lt a cell_count) (Ok (slice_index cs a)) (Err 15)

-- storing alters that cell only; 15 where there is no such cell, or the number is too large
abbrev pub stored : List ℕ → ℕ → ℕ → Result (List ℕ) ℕ
stored cs a n = cond (nat_lt a cell_count && nat_lt n number_limit) (Ok (slice_set cs a n)) (Err 15)
