use Rattle.std.proofs.Common.{arith, rules}
use Rattle.digits.proofs.Rows.{line_room}
use Rattle.rules.specs.Labels.{label_limit}
use Rattle.label.proofs.digit_line.DigitLineLabelLine.push.Goals as goal

-- three digits and a comma for each of 48 codes are the 192 bytes of the line
pub returns : goal.returns
returns c =
    let line = c.args.self.now in
    let below = line.sound.1 in
    let room = line_room 192 3 label_limit 256 line.line c.args.code (omega arith) (omega arith) (omega arith) (omega arith) (λ i. omega (arith, below i)) (omega arith) (omega arith) in
    search rules
