use Rattle.std.proofs.Common.{◌≡◌, ℕ, List, replicate, refl, ◌∙◌, arith}
use Rattle.rules.proofs.Each.{zeroed}
use Rattle.rules.specs.Stores.{zeros, cell_count}
use Rattle.store.specs.Ranges.{Cells}
use Rattle.store.proofs.word_cells.WordCells.new.Goals as goal

sound : (l : List ℕ) (k : ℕ) → k ≡ cell_count → l ≡ replicate k 0 → Cells l
sound l k n e = let z = zeroed l k e in (z.0 ∙ n, λ i. omega (arith, z.1 i))

pub invariant_of-result : goal.invariant_of-result
invariant_of-result c = record { sound = sound _ _ refl c.filled.ensures }

pub returns : goal.returns
unfolding zeros
returns c = c.filled.ensures
