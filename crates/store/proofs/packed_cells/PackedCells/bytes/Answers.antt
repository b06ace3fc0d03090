use Rattle.std.proofs.Common.{◌<◌, ◌∙◌, [], rules}
use Rattle.rules.specs.Stores.{cell_count}
use Rattle.store.specs.Cellwise.{row_packed}
use Rattle.store.proofs.packed_cells.PackedCells.bytes.Goals as goal

pub returns : goal.returns
returns c =
    let within : c.in_ok-address.address < cell_count = search rules in
    let row = c.get.ensures [] ∙ row_packed _ c.in_ok-address.address c.args.self.now.sound within in
    search rules
