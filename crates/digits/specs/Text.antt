-- Rows of numbers as bytes: each number in decimal digits, then a comma (44).
use Rattle.std.specs.Prelude.{◌≡◌, ℕ, ◌+◌, ◌-◌, ◌*◌, ◌^◌, ◌<◌, cond, List, [], ◌∷◌, ◌++◌, length, drop, Some, None, Option, decimal, ◌==◌, slice_index}

-- the bytes of a row of numbers
abbrev pub line_of : List ℕ → List ℕ
line_of [] = []
line_of (n ∷ ns) = decimal n ++ (44 ∷ line_of ns)

-- the numbers that bytes hold, where the digits read so far of the first one say n
abbrev pub numbers_from : ℕ → List ℕ → List ℕ
numbers_from n [] = []
numbers_from n (b ∷ bs) = cond (b == 44) (n ∷ numbers_from 0 bs) (numbers_from (n * 10 + (b - 48)) bs)

-- the numbers that bytes hold
abbrev pub numbers_in : List ℕ → List ℕ
numbers_in bs = numbers_from 0 bs

-- every number of a row is below m
abbrev pub Below : ℕ → List ℕ → Type 0
Below m ns = (i : ℕ) → slice_index ns i < m

-- the bytes are just as the numbers in them are written, and each number fits 64 bits
abbrev pub WellWritten : List ℕ → Type 0
WellWritten bs = (bs ≡ line_of (numbers_in bs)) × Below (2 ^ 64) (numbers_in bs)

-- the bytes are a row of `count` numbers
abbrev pub Sound : List ℕ → ℕ → Type 0
Sound bytes count = (count ≡ length (numbers_in bytes)) × WellWritten bytes

-- what stands behind the first number of a row, where there is one
abbrev pub Behind : List ℕ → Option (List ℕ) → Type 0
Behind ns None = length ns ≡ 0
Behind ns (Some rest) = (0 < length ns) × (rest ≡ line_of (drop 1 ns))
