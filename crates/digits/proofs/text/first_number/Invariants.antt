use Rattle.std.proofs.Common.{◌≡◌}
use Rattle.digits.proofs.Numerals.{written_by, NoComma}
use Rattle.digits.proofs.text.first_number.Given as goal

-- what was read so far, and that no comma was
abbrev pub invariant-loop-byte : goal.invariant-loop-byte
invariant-loop-byte l = (l.number ≡ written_by l.byte-index l.text) × NoComma l.byte-index l.text
