use Rattle.std.proofs.Common.{◌≡◌, ℕ, ◌<◌, List, set, arith}
use Rattle.rules.specs.Stores.{number_limit}
use Rattle.store.specs.Packing.{Packed, cell_bytes, cells_in, packed}
use Rattle.store.specs.Cellwise.{cells_written, packed_written}
use Rattle.store.proofs.packed_cells.PackedCellsWordStore.set.Goals as goal

put : (rows new : List (List ℕ)) (row : List ℕ) (a n m : ℕ) → m ≡ n → n < number_limit → row ≡ packed cell_bytes m → new ≡ set rows a row → Packed rows → (cells_in new ≡ set (cells_in rows) a n) × Packed new
put rows new row a n m same small e w p = rw (w, e, same) (cells_written rows a n small, packed_written rows a n p)

pub invariant_of-self : goal.invariant_of-self
invariant_of-self c =
    let r = put _ _ _ c.args.address c.args.number c.get.result c.get.ensures.value (omega (arith, c.get.ensures)) c.pack.ensures c.put.ensures c.args.self.now.sound in
    record { sound = r.1 }

pub returns : goal.returns
returns c =
    let r = put _ _ _ c.args.address c.args.number c.get.result c.get.ensures.value (omega (arith, c.get.ensures)) c.pack.ensures c.put.ensures c.args.self.now.sound in
    r.0
