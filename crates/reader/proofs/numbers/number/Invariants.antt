use Rattle.std.proofs.Common.{◌≡◌, ◌^◌, ◌<◌, take}
use Rattle.rules.specs.Reading.{number_of}
use Rattle.reader.proofs.numbers.number.Given as goal

-- the number of the digits passed, which has no more digits than they are
abbrev pub invariant-loop-d : goal.invariant-loop-d
invariant-loop-d l = (l.number ≡ number_of (take l.d-index l.digits)) × (l.number < 10 ^ l.d-index)
