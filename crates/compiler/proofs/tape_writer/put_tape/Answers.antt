use Rattle.std.proofs.Common.{◌≤◌, ◌+◌, None, length, ap, arith, rules}
use Rattle.std.specs.Borrow.{Bor}
use Rattle.rules.specs.Texts.{cut}
use Rattle.rules.specs.Words.{constant_words, code_words}
use Rattle.compiler.specs.declared.constants.Constants.{Constants}
use Rattle.compiler.specs.Held.{table}
use Rattle.compiler.specs.Lines.{read_lines}
use Rattle.compiler.proofs.Puts.{stands, tape_room, lines_room}
use Rattle.compiler.proofs.tape_writer.put_tape.Goals as goal
use Rattle.compiler.proofs.tape_writer.put_tape.Goals.{After-new-writer}

-- the buffer has room for the constants, the lines and the end word
room : (c : After-new-writer) → c.new-writer.result.count + (length (constant_words 0 (table c.new-writer.result.constants.now)) + (length (code_words (table c.new-writer.result.constants.now) None (read_lines (cut c.args.text.now))) + 1)) ≤ length c.new-writer.result.buffer.now
room c = tape_room c.new-writer.result (table c.args.constants.now) c.args.tape.now (read_lines (cut c.args.text.now)) c.new-writer.ensures.count c.new-writer.ensures.buffer (ap (λ (o : Bor Constants). table o.now) c.new-writer.ensures.constants) c.requires

pub put_constants-requires : goal.put_constants-requires
put_constants-requires c = omega (arith, room (goal.at.put_constants-requires c).After-new-writer)

pub put_lines-requires : goal.put_lines-requires
put_lines-requires c = omega (arith, lines_room c.new-writer.result c.put_constants.new.self (read_lines (cut c.args.text.now)) (room (goal.at.put_lines-requires c).After-new-writer) c.put_constants.ensures)

pub put-requires : goal.put-requires
put-requires c = omega (arith, lines_room c.new-writer.result c.put_constants.new.self (read_lines (cut c.args.text.now)) (room (goal.at.put-requires c).After-new-writer) c.put_constants.ensures, c.put_lines.ensures.count, c.put_lines.ensures.size)

pub returns : goal.returns
returns c = stands c.new-writer.result c.put_constants.new.self c.put_lines.new.self c.put.new.self (read_lines (cut c.args.text.now)) (table c.args.constants.now) c.args.tape.now _ c.new-writer.ensures.count c.new-writer.ensures.buffer (ap (λ (o : Bor Constants). table o.now) c.new-writer.ensures.constants) c.put_constants.ensures c.put_lines.ensures c.put.ensures (search rules)
