use Rattle.std.proofs.Common.{None}
use Rattle.rules.specs.Texts.{cut}
use Rattle.rules.specs.Words.{code_words}
use Rattle.compiler.specs.Held.{table}
use Rattle.compiler.specs.Lines.{read_lines}
use Rattle.compiler.proofs.Puts.{Left}
use Rattle.compiler.proofs.tape_writer.TapeWriter.put_lines.Given as goal

abbrev pub invariant-loop-bytes : goal.invariant-loop-bytes
invariant-loop-bytes l = Left l.initial.self l.self l.above (read_lines (cut l.bytes-iterator.rest.now)) (code_words (table l.initial.self.constants.now) None (read_lines (cut l.text)))
