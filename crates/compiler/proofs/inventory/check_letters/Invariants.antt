use Rattle.std.proofs.Common.{◌≡◌, ◌+◌, ◌≤◌, length}
use Rattle.rules.specs.Tree.{Program}
use Rattle.rules.specs.Texts.{cut}
use Rattle.rules.specs.Mentions.{program_mentions, first_loose}
use Rattle.compiler.specs.Counted.{Marks}
use Rattle.compiler.specs.Lines.{read_lines, Readable}
use Rattle.compiler.proofs.inventory.check_letters.Given as goal

-- going on from here gives what going from the start gives
abbrev pub invariant-loop-line : goal.invariant-loop-line
invariant-loop-line l =
    Readable (cut l.line-iterator.b.rest.now)
    × ((ks : Program) → Marks l.groups ks → first_loose ks (program_mentions 1 (read_lines (cut l.text))) ≡ first_loose ks (program_mentions l.line-iterator.a.start (read_lines (cut l.line-iterator.b.rest.now))))
    × (l.line-iterator.a.start + length l.line-iterator.b.rest.now ≤ length l.text + 1)
