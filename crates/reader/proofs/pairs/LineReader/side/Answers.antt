use Rattle.std.proofs.Common.{arith}
use Rattle.std.proofs.lemmas.List.{get_or_past}
use Rattle.std.proofs.lemmas.Bool.Decides.{nat_tests}
use Rattle.reader.proofs.Sides.{NotReading, side_single, side_pair}
use Rattle.reader.proofs.pairs.LineReader.side.Goals as goal

pub returns-in-Some : goal.returns-in-Some
returns-in-Some c =
    let h : NotReading c.args.self.now.cursor.rest.now = grind (arith, nat_tests, get_or_past c.args.self.now.cursor.rest.now 0 0) in
    let l = c.in_ok-left.ensures.reads in
    side_single l.0 c.in-Some.atom c.args.self.now.cursor.rest.now c.operand.new.self.cursor.rest.now c.in_ok-left.left c.none-depth.result.room c.none-depth.result.waiting c.alone.result c.args.self.now.operations.items c.operand.new.self.operations.items h c.none-depth.ensures.room l.1 l.2 c.alone.ensures c.in-Some.is c.requires.operations l.3

-- What follows a left operand that does not stand alone is a sign and a right operand, and the operations of both and the pair's own then stand after one another as the definition has them.
pub returns : goal.returns
returns c =
    let h : NotReading c.args.self.now.cursor.rest.now = grind (arith, nat_tests, get_or_past c.args.self.now.cursor.rest.now 0 0) in
    let l = c.in_ok-left.ensures.reads in
    let q = c.in_ok-second.ensures.reads in
    side_pair l.0 c.args.self.now.cursor.rest.now c.operand.new.self.cursor.rest.now c.second.new.self.cursor.rest.now c.in_ok-left.left c.none-depth.result.room c.none-depth.result.waiting c.none-depth.result.room c.none-depth.result.waiting q.0 c.alone.result c.args.self.now.operations.items c.operand.new.self.operations.items c.second.new.self.operations.items h c.none-depth.ensures.room c.none-depth.ensures.waiting c.none-depth.ensures.room c.none-depth.ensures.waiting l.1 l.2 c.alone.ensures c.in_default-alone.is q.1 c.requires.operations l.3 q.2
