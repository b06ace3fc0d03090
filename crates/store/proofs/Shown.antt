use Rattle.std.proofs.Common.{refl}
use Rattle.store.specs.Packing.{packed}
use Rattle.store.specs.Examples.{Examples}

pub examples : Examples
unfolding packed
examples = record { fourteen = refl; read = refl; one = refl; greatest = refl }
