use Rattle.std.proofs.Common.{take}
use Rattle.rules.specs.Words.{constant_words}
use Rattle.compiler.specs.Put.{Wrote}
use Rattle.compiler.proofs.tape_writer.TapeWriter.put_constants.Given as goal

abbrev pub invariant-loop-place : goal.invariant-loop-place
invariant-loop-place l = Wrote l.initial.self (constant_words 0 (take l.place l.held)) l.self
