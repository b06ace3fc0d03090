use Rattle.std.proofs.Common.{refl}
use Rattle.std.specs.Fmt.{digits}
use Rattle.digits.specs.Examples.{Examples}

pub examples : Examples
unfolding digits
examples = record { writes = refl; reads = refl; zeros = refl; begun = refl; longest = refl }
