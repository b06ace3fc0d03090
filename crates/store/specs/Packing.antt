-- Packed decimal: two digits a byte, the higher digit in the higher half, the highest pair of a number first.
use Rattle.std.specs.Prelude.{◌≡◌, ℕ, zero, suc, ◌+◌, ◌*◌, ◌/◌, ◌%◌, ◌<◌, List, [], ◌∷◌, ◌++◌, map, length, All}
use Rattle.rules.specs.Stores.{cell_count}

-- the byte of two digits, given as a number below a hundred
abbrev pub pair_byte : ℕ → ℕ
pair_byte pair = pair / 10 * 16 + pair % 10

-- the two digits of a byte, as a number below a hundred
abbrev pub pair_in : ℕ → ℕ
pair_in byte = byte / 16 * 10 + byte % 16

-- both halves of the byte are digits
abbrev pub TwoDigits : ℕ → Type 0
TwoDigits byte = (byte / 16 < 10) × (byte % 16 < 10)

-- a number in so many bytes; shut, since at a numeral it would compute
unfoldable pub packed : ℕ → ℕ → List ℕ
packed zero n = []
packed (suc k) n = packed k (n / 100) ++ (pair_byte (n % 100) ∷ [])

-- the number in a row of bytes, n being what stands before them
abbrev pub unpacked_on : ℕ → List ℕ → ℕ
unpacked_on n [] = n
unpacked_on n (b ∷ bs) = unpacked_on (n * 100 + pair_in b) bs

abbrev pub unpacked : List ℕ → ℕ
unpacked bs = unpacked_on 0 bs

-- fourteen digits
abbrev pub cell_bytes : ℕ
cell_bytes = 7

-- seven bytes of two digits each
abbrev pub IsPacked : List ℕ → Type 0
IsPacked bs = (length bs ≡ cell_bytes) × All TwoDigits bs

-- the number in each row of bytes; shut, since a thousand would compute
unfoldable pub cells_in : List (List ℕ) → List ℕ
cells_in rows = map unpacked rows

-- a thousand rows, each a packed number
abbrev pub Packed : List (List ℕ) → Type 0
Packed rows = (length rows ≡ cell_count) × All IsPacked rows
