-- What a label line means: the codes in order, at most 48, each at most 255.
use Rattle.std.specs.Prelude.{ℕ, ◌-◌, cond, ◌&&◌, List, [], ◌∷◌, ◌++◌, length, Ok, Err, Result, nat_le, nat_lt, slice_index}

abbrev pub label_limit : ℕ
label_limit = 48

abbrev pub greatest_code : ℕ
greatest_code = 255

-- how many places the codes take on the label: one each
abbrev pub places : List ℕ → ℕ
places cs = length cs

-- the code at a place, from 1; 18 where there is none
abbrev pub code_at : List ℕ → ℕ → Result ℕ ℕ
code_at cs p = cond (nat_le 1 p && nat_le p (length cs)) (Ok (slice_index cs (p - 1))) (Err 18)

-- printing puts a code at the end; 35 where the label is full, then 36 where the code is too large
abbrev pub printed : List ℕ → ℕ → Result (List ℕ) ℕ
printed cs c = cond (nat_lt (places cs) label_limit) (cond (nat_le c greatest_code) (Ok (cs ++ (c ∷ []))) (Err 36)) (Err 35)
