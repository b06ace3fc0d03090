-- Worked examples: rows of numbers and their bytes.
use Rattle.std.specs.Prelude.{◌≡◌, [], ◌∷◌, length, codes}
use Rattle.digits.specs.Text.{line_of, numbers_in}

pub record Examples : Type 0 where
  pub writes : line_of (7 ∷ (115 ∷ [])) ≡ codes "7,115,"
  pub reads : numbers_in (codes "7,115,") ≡ 7 ∷ (115 ∷ [])
  -- zero is one digit
  pub zeros : line_of (0 ∷ (0 ∷ (100 ∷ []))) ≡ codes "0,0,100,"
  -- digits with no comma behind them are no number yet
  pub begun : numbers_in (codes "40,12") ≡ 40 ∷ []
  pub longest : length (line_of (18446744073709551615 ∷ [])) ≡ 21
