-- A text cut into lines: what is written comes apart again at its line ends, and the parts make up the text.
use Rattle.std.proofs.Common.{◌≡◌, ℕ, zero, suc, ◌+◌, ◌%◌, ◌^◌, ◌<◌, Bool, true, false, cond, eqb, List, [], ◌∷◌, ◌++◌, decimal, refl, ap, ◌∙◌, arith}
use Rattle.std.specs.List.{AllByRecursion}
use Rattle.std.proofs.lemmas.Bool.{eqb-true, ne_eqb}
use Rattle.std.proofs.lemmas.Fmt.{decimal_by_steps}
use Rattle.rules.specs.declared.sign.Sign.{Sign}
use Rattle.rules.specs.declared.sign.Sign.TheVariants.{Sum, Product, Difference, Quotient, Distance, Remainder, Greater, Smaller}
use Rattle.rules.specs.declared.formula.Atom as atoms
use Rattle.rules.specs.declared.formula.Atom.TheVariants as a
use Rattle.rules.specs.declared.formula.Target as targets
use Rattle.rules.specs.declared.formula.Target.TheVariants as t
use Rattle.rules.specs.Codes.{sign_byte}
use Rattle.rules.specs.Tree.{Operand, atom, pair, Side, reading, single, both, Line}
use Rattle.rules.specs.Written.{written_atom, written, written_side, written_target, written_line}
use Rattle.rules.specs.Reading.{depth_limit}
use Rattle.rules.specs.Texts.{Text, tail, line, begun, cut}
use Rattle.rules.specs.Programs.{GoodAtom, GoodOperand, GoodSide, GoodTarget, GoodLine}
use Rattle.std.proofs.ByRecursion.{All-append}

-- a text put together again
abbrev pub uncut : Text → List ℕ
uncut (tail p) = p
uncut (line p t) = p ++ (10 ∷ uncut t)

uncut_begun : (x : ℕ) (t : Text) → uncut (begun x t) ≡ x ∷ uncut t
uncut_begun x (tail p) = refl
uncut_begun x (line p t) = refl

-- Cutting drops only line ends, and each is put back where a line ended.
pub uncut_cut : (xs : List ℕ) → uncut (cut xs) ≡ xs
uncut_cut [] = refl
uncut_cut (x ∷ xs) = by (eqb x 10) refl (uncut_cut xs)
  where
    by : (b : Bool) → eqb x 10 ≡ b → uncut (cut xs) ≡ xs → uncut (cond b (line [] (cut xs)) (begun x (cut xs))) ≡ x ∷ xs
    by true e i = let f : x ≡ 10 = eqb-true x 10 e in rw (i, f)
    by false e i = uncut_begun x (cut xs) ∙ ap (λ (o : List ℕ). x ∷ o) i

-- Each byte of a written line is past the line end, byte 10: letters, digits and signs all are.
-- So the first line end after a written line is its own, and the cut falls there.
abbrev Past : ℕ → Type 0
Past x = 10 < x

decimal_past : (n : ℕ) → n < 2 ^ 64 → AllByRecursion Past (decimal n)
decimal_past n h = decimal_by_steps (λ m ds. AllByRecursion Past ds) (λ m q. (omega arith, tt)) (λ m ds q i. All-append Past ds ((48 + m % 10) ∷ []) i (omega arith, tt)) n h

sign_past : (s : Sign) → Past (sign_byte s)
sign_past Sum = omega arith
sign_past Product = omega arith
sign_past Difference = omega arith
sign_past Quotient = omega arith
sign_past Distance = omega arith
sign_past Remainder = omega arith
sign_past Greater = omega arith
sign_past Smaller = omega arith

atom_past : (x : atoms.Atom) → GoodAtom x → AllByRecursion Past (written_atom x)
atom_past (a.Variable v) g = (omega arith, tt)
atom_past (a.Pointed v) g = (omega arith, (omega arith, tt))
atom_past (a.Letter l) g = (omega arith, tt)
atom_past (a.Constant n) g = decimal_past n (omega arith)

operand_past : (x : Operand) (d : ℕ) → GoodOperand d x → AllByRecursion Past (written x)
operand_past (atom x) d g = atom_past x g
operand_past (pair l s r) zero g = absurd g
operand_past (pair l s r) (suc d) g = (omega arith, All-append Past (written l) _ (operand_past l d g.0) (sign_past s, All-append Past (written r) _ (operand_past r d g.1) (omega arith, tt)))

side_past : (z : Side) → GoodSide z → AllByRecursion Past (written_side z)
side_past reading g = (omega arith, tt)
side_past (single x) g = atom_past x g
side_past (both l s r) g = All-append Past (written l) _ (operand_past l depth_limit g.0) (sign_past s, operand_past r depth_limit g.1)

target_past : (u : targets.Target) → GoodTarget u → AllByRecursion Past (written_target u)
target_past (t.Variable v) g = (omega arith, tt)
target_past (t.Pointed v) g = (omega arith, (omega arith, tt))
target_past t.Label g = (omega arith, tt)
target_past t.Place g = (omega arith, tt)

line_past : (k : Line) → GoodLine k → AllByRecursion Past (written_line k)
line_past k g = (omega (arith, g.group.0), (omega arith, All-append Past (written_side k.side) _ (side_past k.side g.side) (omega arith, target_past k.target g.target)))

cut_past : (p xs : List ℕ) → AllByRecursion Past p → cut (p ++ (10 ∷ xs)) ≡ line p (cut xs)
cut_past [] xs a = refl
cut_past (x ∷ p) xs a = rw (ne_eqb x 10 (λ q. omega (arith, a.0)), cut_past p xs a.1)

pub cut_line : (k : Line) (xs : List ℕ) → GoodLine k → cut (written_line k ++ (10 ∷ xs)) ≡ line (written_line k) (cut xs)
cut_line k xs g = cut_past (written_line k) xs (line_past k g)
