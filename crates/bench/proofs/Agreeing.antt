-- Benches that mean the same agree on every call.
use Rattle.std.specs.Prelude.{Ok, Err, Result}
use Rattle.std.proofs.Common.{◌≡◌, ℕ, true, List, [], ◌∷◌, length, refl, ap, ◌∙◌, arith}
use Rattle.std.proofs.lemmas.Bool.{eq-eqb}
use Rattle.bench.specs.declared.call.Call.{Call}
use Rattle.bench.specs.declared.call.Reply.{Reply}
use Rattle.bench.specs.declared.call.Reply.TheVariants.{Done, Number, Nothing}
use Rattle.bench.specs.Benches.{Meaning, agreements, answered, left, one_if, same_answer}

same_self : (x : Result Reply ℕ) → same_answer x x ≡ true
same_self (Ok Done) = refl
same_self (Ok (Number n)) = eq-eqb n n refl
same_self (Ok Nothing) = refl
same_self (Err e) = eq-eqb e e refl

agree_self : (m : Meaning) (calls : List Call) → agreements m m calls ≡ length calls
agree_self m [] = refl
agree_self m (call ∷ calls) =
    let one : one_if (same_answer (answered m call) (answered m call)) ≡ 1 = ap one_if (same_self (answered m call)) in
    let rest = agree_self (left m call) calls in
    omega arith

pub agree_same : (l r : Meaning) (calls : List Call) (n : ℕ) → n ≡ agreements l r calls → l ≡ r → n ≡ length calls
agree_same l r calls n e same = e ∙ ap (λ m. agreements m r calls) same ∙ agree_self r calls
