-- The sign of the first row that a byte writes, found by its row.
use Rattle.std.specs.Prelude.{cond}
use Rattle.std.proofs.Common.{◌≡◌, ℕ, Bool, true, false, List, [], ◌∷◌, Some, None, Option, refl}
use Rattle.std.specs.List.{find}
use Rattle.rules.specs.declared.sign.Sign.{Sign}
use Rattle.rules.specs.declared.sign.CodeRow.{CodeRow}
use Rattle.rules.specs.Codes.{sign_in, sign_of, writes}

abbrev pub row_sign : Option CodeRow → Option Sign
row_sign None = None
row_sign (Some r) = sign_in r.written

pub sign_found : (b : ℕ) (rs : List CodeRow) → sign_of b rs ≡ row_sign (find (writes b) rs)
sign_found b [] = refl
sign_found b (r ∷ rs) = ways (writes b r) (sign_found b rs)
  where
    ways : (t : Bool) → sign_of b rs ≡ row_sign (find (writes b) rs) → cond t (sign_in r.written) (sign_of b rs) ≡ row_sign (cond t (Some r) (find (writes b) rs))
    ways true more = refl
    ways false more = more
