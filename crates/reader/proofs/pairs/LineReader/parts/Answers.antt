use Rattle.std.proofs.Common.{◌≡◌, length, arith}
use Rattle.std.proofs.lemmas.Bool.Decides.{nat_tests}
use Rattle.reader.proofs.Sides.{line_is}
use Rattle.reader.proofs.pairs.LineReader.parts.Goals as goal

-- Each part was read where the part before it left off, and nothing is left: so the whole is read.
pub returns : goal.returns
returns c =
    let s = c.in_ok-side.ensures in
    let n : length c.target.new.self.rest.now ≡ 0 = grind (arith, nat_tests) in
    line_is c.args.self.now.cursor.rest.now c.opening.new.self.rest.now c.side.new.self.cursor.rest.now c.byte.new.self.rest.now c.target.new.self.rest.now c.in_ok-group.group c.in_ok-byte.field-0 s.0 c.in_ok-side.side c.in_ok-target.target c.side.new.self.operations.items c.in_ok-group.ensures s.1 s.2 s.3 c.in_ok-byte.ensures.0 c.in_ok-target.ensures n
