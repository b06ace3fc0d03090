use Rattle.std.proofs.Common.{refl}
use Rattle.store.specs.Cellwise.{cleared}
use Rattle.store.proofs.packed_cells.PackedCells.new.Goals as goal

pub invariant_of-result : goal.invariant_of-result
invariant_of-result c = record { sound = (cleared _ _ refl c.filled.ensures).0 }

pub returns : goal.returns
returns c = (cleared _ _ refl c.filled.ensures).1
