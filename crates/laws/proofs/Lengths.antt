-- How many words things take.
use Rattle.std.proofs.Common.{◌≡◌, ℕ, suc, ◌+◌, ◌*◌, Bool, true, false, cond, List, [], ◌∷◌, length, Some, None, Option, refl, ap, arith}
use Rattle.std.proofs.lemmas.List.{length-append}
use Rattle.rules.specs.declared.operation.Operation.{Operation}
use Rattle.rules.specs.Tree.{Side, reading, single, both, Line, Program}
use Rattle.rules.specs.Operations.{side_operations, side_count}
use Rattle.rules.specs.Cells.{target_address}
use Rattle.rules.specs.Words.{operation_words, side_words, same_group, head_if, head_word, code_words, constant_words, tape_of}

pub operations_length : (cs : List ℕ) (er : ℕ) (os : List Operation) → length (operation_words cs er os) ≡ length os
operations_length cs er [] = refl
operations_length cs er (o ∷ os) = ap suc (operations_length cs er os)

pub side_length : (cs : List ℕ) (er : ℕ) (s : Side) → length (side_words cs er s) ≡ side_count s
side_length cs er reading = refl
side_length cs er (single x) = refl
side_length cs er (both l s r) = operations_length cs er (side_operations (both l s r))

pub head_length : (above : Option ℕ) (g : ℕ) → length (head_if above g) ≡ cond (same_group above g) 0 1
head_length above g = by (same_group above g)
  where
    by : (b : Bool) → length (cond b [] (head_word g ∷ [])) ≡ cond b 0 1
    by true = refl
    by false = refl

pub code_length : (cs : List ℕ) (above : Option ℕ) (k : Line) (ks : Program) → length (code_words cs above (k ∷ ks)) ≡ cond (same_group above k.group) 0 1 + side_count k.side + length (code_words cs (Some k.group) ks)
code_length cs above k ks = simp length-append (omega (arith, head_length above k.group, side_length cs (target_address k.target) k.side))

pub constants_length : (i : ℕ) (cs : List ℕ) → length (constant_words i cs) ≡ 2 * length cs
constants_length i [] = refl
constants_length i (n ∷ ns) = omega (arith, constants_length (suc i) ns)

pub tape_length : (cs : List ℕ) (ks : Program) → length (tape_of cs ks) ≡ 2 * length cs + length (code_words cs None ks) + 1
unfolding tape_of
tape_length cs ks = simp length-append (omega (arith, constants_length 0 cs))
