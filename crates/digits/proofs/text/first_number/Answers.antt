use Rattle.digits.proofs.Numerals.{first_is, first_none}
use Rattle.digits.proofs.text.first_number.Goals as goal

pub returns-then-byte-eq44 : goal.returns-then-byte-eq44
returns-then-byte-eq44 c ns below t =
    first_is ns c.args.text.now c.loop-byte.byte-index c.loop-byte.number below t c.loop-byte-test.true c.if-byte-eq44.true c.loop-byte.invariant.1 c.loop-byte.invariant.0

pub returns : goal.returns
returns c ns below t = first_none ns c.args.text.now c.loop-byte.byte-index below t c.loop-byte-test.false c.loop-byte.invariant.1
