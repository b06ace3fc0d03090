-- A call that alters something comes to what it leaves, or to the number of its refusal; a refusal alters nothing.
use Rattle.std.specs.Prelude.{ℕ, Ok, Err, Result}

-- what is there after the call, from what was there before
abbrev pub left_by : {S : Type 0} → Result S ℕ → S → S
left_by (Ok new) old = new
left_by (Err number) old = old

-- what the call answers, where it has nothing to tell but that it was done
abbrev pub answer_of : {S : Type 0} → Result S ℕ → Result (Unit {0}) ℕ
answer_of (Ok new) = Ok tt
answer_of (Err number) = Err number
