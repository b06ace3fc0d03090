use Rattle.std.proofs.Common.{◌-◌, length, arith}
use Rattle.std.proofs.lemmas.Bool.Decides.{nat_tests}
use Rattle.laws.proofs.Places.{places_are_first_lem}
use Rattle.reader.proofs.line.read_line.Goals as goal

-- The length was judged first, so the definition fails there too, with the bytes past the limit left: the place is the next one after the limit.
pub returns-then-text-gt-LINE_LIMIT-clause-told : goal.returns-then-text-gt-LINE_LIMIT-clause-told
returns-then-text-gt-LINE_LIMIT-clause-told c = (length c.args.text.now - 80, grind (arith, nat_tests), omega arith)

-- A failure has no more bytes left than the line has.
pub overflow_sub-result : goal.overflow_sub-result
overflow_sub-result c = omega (arith, (places_are_first_lem c.args.text.now c.in-Err.e.fault c.in-Err.e.left c.in-Err.ensures).low)

pub returns-in-Err-clause-first : goal.returns-in-Err-clause-first
returns-in-Err-clause-first c = λ h. places_are_first_lem c.args.text.now c.in-Err.e.fault c.in-Err.e.left c.in-Err.ensures
