-- The number of each refusal of a call or a device, and of each cause for which a label stops.
use Rattle.std.specs.Prelude.{ℕ, Ok, Err, Result}
use Rattle.rules.specs.declared.refusal.Refusal.{Refusal}
use Rattle.rules.specs.declared.refusal.Refusal.TheVariants.{OutOfRange, NoCode, QueueFull, NoneWaiting}
use Rattle.rules.specs.declared.refusal.Cause.{Cause}
use Rattle.rules.specs.declared.refusal.Cause.TheVariants.{LabelFull, CodeTooLarge}

abbrev pub refusal_number : Refusal → ℕ
refusal_number OutOfRange = 15
refusal_number NoCode = 18
refusal_number QueueFull = 26
refusal_number NoneWaiting = 27

abbrev pub cause_number : Cause → ℕ
cause_number LabelFull = 35
cause_number CodeTooLarge = 36

-- an answer by its refusal's number
abbrev pub numbered : {A : Type 0} → Result A Refusal → Result A ℕ
numbered (Ok x) = Ok x
numbered (Err e) = Err (refusal_number e)

-- an answer by its cause's number
abbrev pub caused : {A : Type 0} → Result A Cause → Result A ℕ
caused (Ok x) = Ok x
caused (Err e) = Err (cause_number e)
