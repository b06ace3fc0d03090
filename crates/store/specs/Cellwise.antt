-- The cells of a packed table: what its rows of bytes say of each, and what writing one does to all.
use Rattle.std.specs.Prelude.{◌≡◌, ℕ, zero, suc, ◌<◌, List, [], ◌∷◌, map, length, get_or, replicate, slice_index, slice_set, refl}
use Rattle.std.proofs.Common.{arith, sym, ap, ◌∙◌, ⊎_elim}
use Rattle.std.proofs.lemmas.Bool.{cases_lt}
use Rattle.std.proofs.lemmas.List.{get_or_past, length-map, length-replicate, length-set, map-set}
use Rattle.std.proofs.lemmas.List.Elements.{All-replicate, All-set}
use Rattle.std.proofs.Math.ListN.{get_or-map}
use Rattle.rules.specs.Stores.{cell_count, number_limit, zeros}
use Rattle.store.specs.Packing.{IsPacked, Packed, TwoDigits, cell_bytes, cells_in, packed, unpacked}
use Rattle.store.specs.Pairs.{is_packed, packed_unpacked, unpacked_below, unpacked_packed}

-- ### reading

length_cells : (rows : List (List ℕ)) → length (cells_in rows) ≡ length rows
unfolding cells_in
length_cells rows = length-map rows unpacked

pub cells_counted : (rows : List (List ℕ)) → Packed rows → length (cells_in rows) ≡ cell_count
cells_counted rows p = length_cells rows ∙ p.0

pub cell_at : (rows : List (List ℕ)) (a : ℕ) → slice_index (cells_in rows) a ≡ unpacked (get_or rows a [])
unfolding cells_in
cell_at rows a = get_or-map unpacked rows a []

-- the bytes of a cell are its number, packed
pub row_packed : (rows : List (List ℕ)) (a : ℕ) → Packed rows → a < cell_count → get_or rows a [] ≡ packed cell_bytes (slice_index (cells_in rows) a)
row_packed rows a p h =
    let row = p.1 a [] (omega (arith, p.0)) in
    sym (packed_unpacked cell_bytes (get_or rows a []) row.0 row.1) ∙ ap (packed cell_bytes) (sym (cell_at rows a))

-- seven bytes of two digits each are fourteen digits
pub cells_below : (rows : List (List ℕ)) → Packed rows → (a : ℕ) → slice_index (cells_in rows) a < number_limit
cells_below rows p a =
    ⊎_elim
    (λ h. let row = p.1 a [] h in
    let b = unpacked_below cell_bytes (get_or rows a []) row.0 row.1 in
    let e = cell_at rows a in omega arith)
    (λ h. let l = length_cells rows in let e = get_or_past (cells_in rows) a 0 (omega arith) in omega arith)
    (cases_lt a (length rows))

-- ### writing

pub cells_written : (rows : List (List ℕ)) (a n : ℕ) → n < number_limit → cells_in (slice_set rows a (packed cell_bytes n)) ≡ slice_set (cells_in rows) a n
unfolding cells_in
cells_written rows a n h = map-set unpacked rows a (packed cell_bytes n) ∙ ap (slice_set (map unpacked rows) a) (unpacked_packed cell_bytes n h)

pub packed_written : (rows : List (List ℕ)) (a n : ℕ) → Packed rows → Packed (slice_set rows a (packed cell_bytes n))
packed_written rows a n p = (length-set _ _ _ ∙ p.0, All-set IsPacked rows a (packed cell_bytes n) (is_packed n) p.1)

-- ### a cleared table

no_number : List ℕ
no_number = replicate cell_bytes 0

no_cells : (k : ℕ) → map unpacked (replicate k no_number) ≡ replicate k 0
unfolding no_number
no_cells zero = refl
no_cells (suc k) = ap (λ xs. 0 ∷ xs) (no_cells k)

-- the count is a variable: written out, a thousand rows compute
pub cleared : (rows : List (List ℕ)) (k : ℕ) → k ≡ cell_count → rows ≡ replicate k (replicate cell_bytes 0) → Packed rows × (cells_in rows ≡ zeros)
unfolding zeros cells_in no_number
cleared rows k n e = rw e (
  (length-replicate k no_number ∙ n, All-replicate IsPacked k no_number (refl, All-replicate TwoDigits cell_bytes 0 (omega arith, omega arith))),
  no_cells k ∙ ap (λ m. replicate m 0) n,
)
