use Rattle.std.proofs.Common.{take}
use Rattle.compiler.specs.Held.{table}
use Rattle.compiler.specs.Put.{Wrote}
use Rattle.compiler.proofs.Puts.{inner_words}
use Rattle.compiler.proofs.tape_writer.TapeWriter.put_operations.Given as goal

abbrev pub invariant-loop-operation : goal.invariant-loop-operation
invariant-loop-operation l = Wrote l.initial.self (inner_words (table l.initial.self.constants.now) (take l.operation-index l.others)) l.self
