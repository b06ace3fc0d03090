use Rattle.std.proofs.Common.{arith, rules}
use Rattle.readings.specs.Rounds.{drop_round}
use Rattle.readings.proofs.ring_queue.RingQueueReadingQueue.drop_first.Goals as goal

pub returns-clause-after : goal.returns-clause-after
returns-clause-after c =
    let q = c.args.self.now in
    let d = drop_round q.slots q.start q.count (grind arith) in
    search rules
