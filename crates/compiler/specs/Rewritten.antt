-- The words of a line as it was read.
use Rattle.std.specs.Prelude.{ℕ, List, [], ◌∷◌}
use Rattle.rules.specs.Codes.{transfer_code}
use Rattle.rules.specs.Cells.{reading_address, atom_address, target_address}
use Rattle.rules.specs.Words.{word, operation_words}
use Rattle.reader.specs.declared.line.Side.{Side}
use Rattle.reader.specs.declared.line.Side.TheVariants.{Reading, Single, Pair}
use Rattle.reader.specs.declared.line.ReadLine.{ReadLine}

abbrev pub read_side_words : List ℕ → ℕ → Side → List ℕ
read_side_words cs er Reading = word 0 transfer_code reading_address er ∷ []
read_side_words cs er (Single x) = word 0 transfer_code (atom_address cs x) er ∷ []
read_side_words cs er (Pair os) = operation_words cs er os.items

abbrev pub read_words : List ℕ → ReadLine → List ℕ
read_words cs r = read_side_words cs (target_address r.target) r.side
