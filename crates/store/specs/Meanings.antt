-- What each kind of store means.
use Rattle.std.specs.Prelude.{ℕ, cond, List, Ok, Err, Result, nat_lt, slice_index}
use Rattle.rules.specs.Stores.{cell_count}
use Rattle.store.specs.declared.word_cells.WordCells.{WordCells}
use Rattle.store.specs.declared.packed_cells.PackedCells.{PackedCells}
use Rattle.store.specs.Packing.{cell_bytes, cells_in, packed}

abbrev pub word_cells : WordCells → List ℕ
word_cells s = s.table.cells

abbrev pub packed_cells : PackedCells → List ℕ
packed_cells s = cells_in s.table.cells

-- the bytes of a cell are its number, packed; 15 where there is no such cell
abbrev pub packed_cell : List ℕ → ℕ → Result (List ℕ) ℕ
packed_cell cs a = cond (nat_lt a cell_count) (Ok (packed cell_bytes (slice_index cs a))) (Err 15)
