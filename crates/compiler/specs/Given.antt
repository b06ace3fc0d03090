-- The lines that are given one after another are those that the text is cut into.
use Rattle.std.specs.Prelude.{◌≡◌, ◌+◌, ℕ, List, length, Some, None, Option}
use Rattle.std.specs.Borrow.{Bor}
use Rattle.rules.specs.Texts.{cut, tail, line}
use Rattle.compiler.specs.declared.lines.Lines.{Lines}

abbrev pub GivesLine : Lines → Option (Bor (List ℕ)) → Lines → Type 0
GivesLine before None after = (cut before.rest.now ≡ tail before.rest.now) × (after.rest.now ≡ before.rest.now)
GivesLine before (Some p) after = (cut before.rest.now ≡ line p.now (cut after.rest.now)) × (length p.now + length after.rest.now + 1 ≡ length before.rest.now)
