use Rattle.std.proofs.Common.{◌≡◌, ◌+◌, ◌++◌, take}
use Rattle.arrayvec.specs.ArrayVec.{array_vec_len}
use Rattle.digits.proofs.text.put_digits.Given as goal

-- so many digits have been put
abbrev pub invariant-loop-digit : goal.invariant-loop-digit
invariant-loop-digit g l =
    (l.bytes.items ≡ l.initial.bytes.items ++ take l.digit-index l.digits)
    × (array_vec_len l.bytes ≡ array_vec_len l.initial.bytes + l.digit-index)
