-- What a reading queue means: the numbers that wait, the first to be taken first; at most 16, each below 10^14.
use Rattle.std.specs.Prelude.{ℕ, cond, List, [], ◌∷◌, ◌++◌, length, Some, None, Ok, Err, Option, Result, nat_lt}
use Rattle.rules.specs.Stores.{number_limit}

abbrev pub queue_limit : ℕ
queue_limit = 16

abbrev pub first_waiting : List ℕ → Option ℕ
first_waiting [] = None
first_waiting (n ∷ ns) = Some n

-- dropping removes the first; 27 where none waits
abbrev pub dropped : List ℕ → Result (List ℕ) ℕ
dropped [] = Err 27
dropped (n ∷ ns) = Ok ns

-- adding puts a number at the end; 15 where it is too large, then 26 where 16 wait
abbrev pub added : List ℕ → ℕ → Result (List ℕ) ℕ
added ns n = cond (nat_lt n number_limit) (cond (nat_lt (length ns) queue_limit) (Ok (ns ++ (n ∷ []))) (Err 26)) (Err 15)
