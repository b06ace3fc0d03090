use Rattle.std.proofs.Common.{arith, rules}
use Rattle.digits.proofs.Rows.{line_room}
use Rattle.rules.specs.Queues.{queue_limit}
use Rattle.rules.specs.Stores.{number_limit}
use Rattle.readings.proofs.digit_queue.DigitQueueReadingQueue.push.Goals as goal

-- fourteen digits and a comma for each of sixteen numbers are the 240 bytes of the line
pub returns : goal.returns
returns c =
    let q = c.args.self.now in
    let room = line_room 240 14 queue_limit number_limit q.line c.args.number (omega arith) (omega arith) (omega arith) (omega arith) q.sound.1 (omega (arith, c.get.ensures.below)) (omega arith) in
    search rules
