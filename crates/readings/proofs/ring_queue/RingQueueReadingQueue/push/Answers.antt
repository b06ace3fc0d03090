use Rattle.std.proofs.Common.{arith, rules}
use Rattle.readings.specs.Rounds.{length_round, add_round}
use Rattle.readings.proofs.ring_queue.RingQueueReadingQueue.push.Goals as goal

pub returns : goal.returns
returns c =
    let q = c.args.self.now in
    let l = length_round q.slots q.start q.count in
    let a = add_round q.slots q.start q.count c.args.number q.sound.0 (omega arith) in
    search rules
