-- How many results of a line wait at once, and how many operations it has, by its length.
use Rattle.std.proofs.Common.{◌≡◌, ℕ, zero, suc, ◌+◌, ◌*◌, ◌<◌, ◌≤◌, length, arith}
use Rattle.std.specs.List.{AllByRecursion}
use Rattle.std.proofs.lemmas.List.{length-append}
use Rattle.std.proofs.lemmas.Fmt.{decimal_nonempty}
use Rattle.rules.specs.declared.sign.Sign.{Sign}
use Rattle.rules.specs.declared.formula.Atom as atoms
use Rattle.rules.specs.declared.formula.Atom.TheVariants as a
use Rattle.rules.specs.declared.formula.Target as targets
use Rattle.rules.specs.declared.formula.Target.TheVariants as t
use Rattle.rules.specs.Tree.{Operand, atom, pair, Side, reading, single, both, Line}
use Rattle.rules.specs.Written.{written_atom, written, written_side, written_target, written_line}
use Rattle.rules.specs.Operations.{source, waiting_after, operations, side_operations}
use Rattle.rules.specs.Programs.{GoodAtom, GoodOperand, GoodSide}
use Rattle.laws.specs.Temporaries.{FitsSource, FitsOperation, TemporariesFit, OperationsFew}
use Rattle.std.proofs.ByRecursion.{All-append}

atom_some : (x : atoms.Atom) → GoodAtom x → 0 < length (written_atom x)
atom_some (a.Variable v) g = omega arith
atom_some (a.Pointed v) g = omega arith
atom_some (a.Letter l) g = omega arith
atom_some (a.Constant n) g = decimal_nonempty n (omega arith)

operand_some : (x : Operand) (d : ℕ) → GoodOperand d x → 0 < length (written x)
operand_some (atom x) d g = atom_some x g
operand_some (pair l s r) d g = omega arith

pair_length : (l r : Operand) (s : Sign) → length (written (pair l s r)) ≡ 3 + (length (written l) + length (written r))
pair_length l r s = simp length-append (omega arith)

-- m bytes stand before the operand, six for each result that waits; if it is a pair, it and the sign after it are six more
after_bytes : (x : Operand) (d m w : ℕ) → GoodOperand d x → 6 * w ≤ m → 6 * waiting_after (source x w) w ≤ m + 2 + length (written x)
after_bytes (atom x) d m w g h = omega arith
after_bytes (pair l s r) zero m w g h = absurd g
after_bytes (pair l s r) (suc d) m w g h = omega (arith, pair_length l r s, operand_some l d g.0, operand_some r d g.1)

source_fits : (x : Operand) (w : ℕ) → w ≤ 15 → FitsSource (source x w)
source_fits (atom x) w h = tt
source_fits (pair l s r) w h = h

-- A result waits only while what stands to its right is worked, and it was written to the left with at least `(a+b)` and a sign.
-- So sixteen results would take ninety-six bytes, and a line has at most eighty.
operand_fits : (x : Operand) (d m w : ℕ) → GoodOperand d x → 6 * w ≤ m → m + length (written x) ≤ 80 → AllByRecursion FitsOperation (operations x w)
operand_fits (atom x) d m w g h n = tt
operand_fits (pair x s y) zero m w g h n = absurd g
operand_fits (pair x s y) (suc d) m w g h n =
    let p = pair_length x y s in
    let v : 6 * waiting_after (source x w) w ≤ m + 2 + length (written x) = after_bytes x d m w g.0 h in
    All-append FitsOperation (operations x w) _ (operand_fits x d (m + 1) w g.0 (omega arith) (omega arith))
    (All-append FitsOperation (operations y (waiting_after (source x w) w)) _ (operand_fits y d (m + 2 + length (written x)) (waiting_after (source x w) w) g.1 v (omega arith))
    (record { left = source_fits x w (omega arith); right = source_fits y (waiting_after (source x w) w) (omega arith); result = omega arith }, tt))

-- each operation is written with a sign and, but for the side's own, two parentheses, and there is one atom more than operations
operand_count : (x : Operand) (d w : ℕ) → GoodOperand d x → 4 * length (operations x w) + 1 ≤ length (written x)
operand_count (atom x) d w g = omega (arith, atom_some x g)
operand_count (pair l s r) zero w g = absurd g
operand_count (pair l s r) (suc d) w g =
    let n : length (operations (pair l s r) w) ≡ length (operations l w) + (length (operations r (waiting_after (source l w) w)) + 1) = simp length-append in
    omega (arith, pair_length l r s, operand_count l d w g.0, operand_count r d (waiting_after (source l w) w) g.1)

target_some : (u : targets.Target) → 0 < length (written_target u)
target_some (t.Variable v) = omega arith
target_some (t.Pointed v) = omega arith
target_some t.Label = omega arith
target_some t.Place = omega arith

-- the letter, two commas and the target leave 76 bytes to the side
side_length : (k : Line) → length (written_line k) ≤ 80 → length (written_side k.side) ≤ 76
side_length k h =
    let e : length (written_line k) ≡ 3 + (length (written_side k.side) + length (written_target k.target)) = simp length-append (omega arith) in
    omega (arith, target_some k.target)

both_length : (l r : Operand) (s : Sign) → length (written (pair l s r)) ≡ 2 + length (written_side (both l s r))
both_length l r s = simp length-append (omega arith)

pub temporaries_fit : TemporariesFit
temporaries_fit k g h = by k.side g.side (side_length k h)
  where
    by : (z : Side) → GoodSide z → length (written_side z) ≤ 76 → AllByRecursion FitsOperation (side_operations z)
    by reading q n = tt
    by (single x) q n = tt
    by (both l s r) q n = operand_fits (pair l s r) 17 0 0 q (omega arith) (omega (arith, both_length l r s))

pub operations_few : OperationsFew
operations_few k g h = by k.side g.side (side_length k h)
  where
    by : (z : Side) → GoodSide z → length (written_side z) ≤ 76 → length (side_operations z) ≤ 19
    by reading q n = omega arith
    by (single x) q n = omega arith
    by (both l s r) q n = omega (arith, both_length l r s, operand_count (pair l s r) 17 0 q)
