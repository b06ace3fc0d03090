use Rattle.std.proofs.Common.{◌+◌, ◌≤◌, [], length}
use Rattle.rules.specs.Texts.{cut}
use Rattle.rules.specs.Mentions.{program_mentions}
use Rattle.compiler.specs.Held.{table}
use Rattle.compiler.specs.Lines.{read_lines, Readable}
use Rattle.compiler.specs.Mentioned.{Alike}
use Rattle.compiler.proofs.inventory.take_constants.Given as goal

-- going on from here gives what going from the start gives
abbrev pub invariant-loop-line : goal.invariant-loop-line
invariant-loop-line l =
    Readable (cut l.line-iterator.b.rest.now)
    × Alike (program_mentions 1 (read_lines (cut l.text))) [] (program_mentions l.line-iterator.a.start (read_lines (cut l.line-iterator.b.rest.now))) (table l.constants)
    × (l.line-iterator.a.start + length l.line-iterator.b.rest.now ≤ length l.text + 1)
