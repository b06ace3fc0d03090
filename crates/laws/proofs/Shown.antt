use Rattle.std.proofs.Common.{refl}
use Rattle.std.specs.Fmt.{digits}
use Rattle.rules.specs.Reading.{inside_at, operand_at}
use Rattle.rules.specs.Texts.{parsed_from}
use Rattle.rules.specs.Words.{word, tape_of}
use Rattle.rules.specs.Compiled.{compiled}
use Rattle.laws.specs.Devices.{Devices}
use Rattle.laws.specs.Examples.{Examples}

pub examples : Examples
unfolding compiled parsed_from tape_of word inside_at operand_at digits
examples = record { weighing = refl; chained = refl; bracketed = refl; padded = refl; unclosed = refl; empty = refl; endless = refl; astray = refl; beside = refl; numbered = refl; long = refl }

pub devices : Devices
devices = record { reads = refl; writes = refl; beyond = λ cs. refl; nowhere = λ cs. refl; broad = λ cs. refl; front = refl; none = refl; next = refl; empty = refl; sixteenth = refl; seventeenth = refl; both = refl; last = refl; full = refl; wide = refl; order = refl; placed = refl; zeroth = refl; third = refl }
