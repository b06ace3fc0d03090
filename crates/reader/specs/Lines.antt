-- A line and its side, as the reader hands them out: a pair by its operations.
use Rattle.rules.specs.Tree as tree
use Rattle.rules.specs.Tree.{reading, single, both, pair}
use Rattle.rules.specs.Operations.{operations}
use Rattle.reader.specs.declared.line.Side.{Side}
use Rattle.reader.specs.declared.line.Side.TheVariants.{Reading, Single, Pair}
use Rattle.reader.specs.declared.line.ReadLine.{ReadLine}

abbrev pub side_of : tree.Side → Side
side_of reading = Reading
side_of (single x) = Single x
side_of (both l s r) = Pair (record { items = operations (pair l s r) 0 })

abbrev pub line_of : tree.Line → ReadLine
line_of l = record { group = l.group; side = side_of l.side; target = l.target }
