use Rattle.std.proofs.Common.{sym, ap, ◌∙◌, []}
use Rattle.store.specs.Packing.{unpacked}
use Rattle.store.specs.Cellwise.{cell_at}
use Rattle.store.proofs.packed_cells.PackedCellsWordStore.get.Goals as goal

pub returns : goal.returns
returns c = c.unpack.ensures ∙ ap unpacked (c.get.ensures []) ∙ sym (cell_at _ c.args.address)
