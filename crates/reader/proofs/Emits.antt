-- A pair's operations, as the code puts them together.
use Rattle.std.proofs.Common.{◌≡◌, ℕ, List, [], ◌∷◌, ◌++◌, append_assoc}
use Rattle.rules.specs.declared.sign.Sign.{Sign}
use Rattle.rules.specs.declared.operation.Source.{Source}
use Rattle.rules.specs.declared.operation.Operation.{Operation}
use Rattle.rules.specs.Tree.{Operand, pair}
use Rattle.rules.specs.Reading.{got, sign_at, operand_at, second_at}
use Rattle.rules.specs.Operations.{source, waiting_after, operations}
use Rattle.reader.specs.Pairs.{added}

-- the right operand's operations and then the pair's own
pub adds : (h h₁ h₂ : List Operation) (left b : Source) (r : Operand) (s : Sign) (w v : ℕ) → h₁ ≡ h ++ operations r v → h₂ ≡ h₁ ++ (record { left = left; sign = s; right = b; result = w } ∷ []) → b ≡ source r v → v ≡ waiting_after left w → h₂ ≡ h ++ added left s r w
adds h h₁ h₂ left b r s w v e₁ e₂ eb ev = rw (e₂, e₁, eb, ev) (simp append_assoc)

-- the left operand's operations before those
pub emits : (h h₁ h₂ : List Operation) (l r : Operand) (s : Sign) (left : Source) (w : ℕ) → h₁ ≡ h ++ operations l w → left ≡ source l w → h₂ ≡ h₁ ++ added left s r w → h₂ ≡ h ++ operations (pair l s r) w
emits h h₁ h₂ l r s left w e₁ e₂ e₃ = rw (e₃, e₁, e₂) (simp append_assoc)

pub second_is : (n m : ℕ) (xs ys zs : List ℕ) (s : Sign) (r : Operand) → sign_at xs ≡ got s ys → m ≡ n → operand_at m ys ≡ got r zs → second_at n xs ≡ got (s, r) zs
second_is n m xs ys zs s r e₁ e e₂ = let e₃ : operand_at n ys ≡ got r zs = rw e at e₂ in rw (e₁, e₃)
