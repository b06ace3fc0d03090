use Rattle.std.specs.Prelude.{ℕ, List}
use Rattle.compiler.specs.declared.constants.Constants.{Constants}

-- the constants that a table holds
abbrev pub table : Constants → List ℕ
table c = c.numbers.items
