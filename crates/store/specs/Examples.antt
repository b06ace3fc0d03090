-- Worked examples: numbers in packed decimal.
use Rattle.std.specs.Prelude.{◌≡◌, [], ◌∷◌}
use Rattle.store.specs.Packing.{cell_bytes, packed, unpacked}

pub record Examples : Type 0 where
  -- the bytes 12 34 56 78 90 12 34 in hexadecimal
  pub fourteen : packed cell_bytes 12345678901234 ≡ 18 ∷ (52 ∷ (86 ∷ (120 ∷ (144 ∷ (18 ∷ (52 ∷ []))))))
  pub read : unpacked (18 ∷ (52 ∷ (86 ∷ (120 ∷ (144 ∷ (18 ∷ (52 ∷ []))))))) ≡ 12345678901234
  pub one : packed cell_bytes 7 ≡ 0 ∷ (0 ∷ (0 ∷ (0 ∷ (0 ∷ (0 ∷ (7 ∷ []))))))
  -- the bytes 99, seven times
  pub greatest : packed cell_bytes 99999999999999 ≡ 153 ∷ (153 ∷ (153 ∷ (153 ∷ (153 ∷ (153 ∷ (153 ∷ []))))))
