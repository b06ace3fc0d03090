use Rattle.laws.proofs.Digits.{digits_front}
use Rattle.reader.proofs.numbers.constant.Goals as goal

pub number-requires-clause-digits : goal.number-requires-clause-digits
number-requires-clause-digits c = rw c.digit_run-run.ensures (digits_front c.args.text.now)
