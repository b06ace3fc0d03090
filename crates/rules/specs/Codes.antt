-- The eight signs and the nine codes of a word.
use Rattle.std.specs.Prelude.{ℕ, Bool, false, cond, List, [], ◌∷◌, Some, None, Option, ◌==◌}
use Rattle.rules.specs.declared.sign.Sign.{Sign}
use Rattle.rules.specs.declared.sign.Sign.TheVariants.{Sum, Product, Difference, Quotient, Distance, Remainder, Greater, Smaller}
use Rattle.rules.specs.declared.sign.WrittenSign.{WrittenSign}
use Rattle.rules.specs.declared.sign.CodeRow.{CodeRow}

abbrev pub sign_byte : Sign → ℕ
sign_byte Sum = 43
sign_byte Product = 42
sign_byte Difference = 45
sign_byte Quotient = 58
sign_byte Distance = 126
sign_byte Remainder = 37
sign_byte Greater = 62
sign_byte Smaller = 60

abbrev pub code_of : Sign → ℕ
code_of Sum = 1
code_of Product = 2
code_of Difference = 3
code_of Quotient = 4
code_of Distance = 6
code_of Remainder = 7
code_of Greater = 8
code_of Smaller = 9

-- code 05 carries its one operand over unchanged
abbrev pub transfer_code : ℕ
transfer_code = 5

abbrev pub sign_row : Sign → CodeRow
sign_row s = record { written = Some (record { sign = s; byte = sign_byte s }); code = code_of s; arity = 2 }

abbrev pub transfer_row : CodeRow
transfer_row = record { written = None; code = transfer_code; arity = 1 }

abbrev pub code_table : List CodeRow
code_table =
    sign_row Sum
    ∷ (sign_row Product
    ∷ (sign_row Difference
    ∷ (sign_row Quotient
    ∷ (transfer_row
    ∷ (sign_row Distance
    ∷ (sign_row Remainder
    ∷ (sign_row Greater
    ∷ (sign_row Smaller ∷ []))))))))

abbrev pub is_written : ℕ → Option WrittenSign → Bool
is_written b None = false
is_written b (Some w) = w.byte == b

-- this byte writes the row's sign
abbrev pub writes : ℕ → CodeRow → Bool
writes b r = is_written b r.written

abbrev pub sign_in : Option WrittenSign → Option Sign
sign_in None = None
sign_in (Some w) = Some w.sign

-- the sign of the first row that this byte writes
abbrev pub sign_of : ℕ → List CodeRow → Option Sign
sign_of b [] = None
sign_of b (r ∷ rs) = cond (writes b r) (sign_in r.written) (sign_of b rs)
