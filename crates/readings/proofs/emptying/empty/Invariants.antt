use Rattle.std.proofs.Common.{◌≡◌, ◌+◌, length}
use Rattle.readings.proofs.emptying.empty.Given as goal

-- what was removed and what still waits are together what waited
abbrev pub invariant-loop-count : goal.invariant-loop-count
invariant-loop-count g l = l.count + length (g.Q.ReadingQueue.waiting l.queue) ≡ length (g.Q.ReadingQueue.waiting l.initial.queue)
