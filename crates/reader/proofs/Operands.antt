-- How the reading of an operand unfolds at each way out of the code.
use Rattle.std.proofs.Common.{◌≡◌, ℕ, zero, suc, ◌+◌, ◌-◌, ◌<◌, Bool, true, false, List, [], ◌∷◌, length, take, drop, arith}
use Rattle.std.proofs.lemmas.List.{take_rest, nil_from_length}
use Rattle.std.proofs.lemmas.Bool.Decides.{nat_tests}
use Rattle.rules.specs.declared.formula.Atom.TheVariants as a
use Rattle.rules.specs.declared.formula.Start.TheVariants as s
use Rattle.rules.specs.declared.refusal.Fault.{Fault}
use Rattle.rules.specs.declared.refusal.Fault.TheVariants.{ByteOutOfPlace, NestedTooDeep}
use Rattle.rules.specs.Tree.{Operand, atom}
use Rattle.rules.specs.Reading.{Read, got, fails, first, between, start, digit_run, letter_from, variable_at, constant_at, byte_at, closed_by, inside_at, operand_at, pair_at}

-- what `[_, rest @ ..]` names
abbrev pub rest : List ℕ → List ℕ
rest xs = take (length xs - 1) (drop 1 xs)

inside_more : (n m : ℕ) (xs : List ℕ) → m + 1 ≡ n → inside_at n xs ≡ closed_by (operand_at m) (rest xs)
unfolding inside_at operand_at
inside_more zero m xs h = absurd (omega arith)
inside_more (suc n) m xs h = let e : m ≡ n = omega arith in rw (e, take_rest)

pub none_fails : (n l : ℕ) (xs : List ℕ) (f : Fault) → length xs < 1 → f ≡ ByteOutOfPlace → l ≡ length xs → operand_at n xs ≡ fails f l
unfolding operand_at
none_fails n l xs f h ef el = let e : xs ≡ [] = nil_from_length xs (omega arith) in rw (ef, el, e)

pub opens_none : (n l : ℕ) (xs : List ℕ) (f : Fault) → s.Parenthesis ≡ start (first xs) → n ≡ 0 → f ≡ NestedTooDeep → l ≡ length xs → operand_at n xs ≡ fails f l
unfolding operand_at inside_at
opens_none n l xs f b e ef el = rw (ef, el, ← b, e)

pub opens_fails : (n m l : ℕ) (xs : List ℕ) (f : Fault) → s.Parenthesis ≡ start (first xs) → m + 1 ≡ n → pair_at m (rest xs) ≡ fails f l → operand_at n xs ≡ fails f l
unfolding operand_at
opens_fails n m l xs f b h e = rw (← b, inside_more n m xs h, e)

pub opens_unclosed : (n m l : ℕ) (xs ys : List ℕ) (f : Fault) (p : Operand) → s.Parenthesis ≡ start (first xs) → m + 1 ≡ n → pair_at m (rest xs) ≡ got p ys → byte_at 41 ys ≡ fails f l → operand_at n xs ≡ fails f l
unfolding operand_at
opens_unclosed n m l xs ys f p b h e g = rw (← b, inside_more n m xs h, e, g)

pub opens : (n m : ℕ) (xs ys zs : List ℕ) (p : Operand) → s.Parenthesis ≡ start (first xs) → m + 1 ≡ n → pair_at m (rest xs) ≡ got p ys → byte_at 41 ys ≡ got 41 zs → operand_at n xs ≡ got p zs
unfolding operand_at
opens n m xs ys zs p b h e g = rw (← b, inside_more n m xs h, e, g)

letter_got : (a v : ℕ) (xs ys : List ℕ) → letter_from a xs ≡ got v ys → (v ≡ first xs) × (ys ≡ drop 1 xs)
letter_got a v xs ys e = ways (between a (a + 25) (first xs)) e
  where
    ways : (t : Bool) → ◌≡◌ {A = Read ℕ} (elim t [ true ↦ got (first xs) (drop 1 xs) | false ↦ fails ByteOutOfPlace (length xs) ]) (got v ys) → (v ≡ first xs) × (ys ≡ drop 1 xs)
    ways true r = (cc, cc)
    ways false r = let z : ◌≡◌ {A = ℕ} 0 1 = cc in absurd (omega arith)

pub variable_is : (n v : ℕ) (xs ys : List ℕ) → s.Variable ≡ start (first xs) → letter_from 97 xs ≡ got v ys → operand_at n xs ≡ got (atom (a.Variable v)) ys
unfolding operand_at
variable_is n v xs ys b e = let g = letter_got 97 v xs ys e in rw (← b, g.0, g.1)

pub letter_is : (n v : ℕ) (xs ys : List ℕ) → s.Letter ≡ start (first xs) → letter_from 65 xs ≡ got v ys → operand_at n xs ≡ got (atom (a.Letter v)) ys
unfolding operand_at
letter_is n v xs ys b e = let g = letter_got 65 v xs ys e in rw (← b, g.0, g.1)

pub points : (n v : ℕ) (xs ys : List ℕ) → s.Pointer ≡ start (first xs) → variable_at (rest xs) ≡ got v ys → operand_at n xs ≡ got (atom (a.Pointed v)) ys
unfolding operand_at
points n v xs ys b e = let f : variable_at (drop 1 xs) ≡ got v ys = rw take_rest at e in rw (← b, f)

pub points_fails : (n l : ℕ) (xs : List ℕ) (f : Fault) → s.Pointer ≡ start (first xs) → variable_at (rest xs) ≡ fails f l → operand_at n xs ≡ fails f l
unfolding operand_at
points_fails n l xs f b e = let g : variable_at (drop 1 xs) ≡ fails f l = rw take_rest at e in rw (← b, g)

pub constant_is : (n v : ℕ) (xs ys : List ℕ) → s.Digit ≡ start (first xs) → constant_at xs ≡ got v ys → operand_at n xs ≡ got (atom (a.Constant v)) ys
unfolding operand_at
constant_is n v xs ys b e = rw (← b, e)

pub constant_fails : (n l : ℕ) (xs : List ℕ) (f : Fault) → s.Digit ≡ start (first xs) → constant_at xs ≡ fails f l → operand_at n xs ≡ fails f l
unfolding operand_at
constant_fails n l xs f b e = rw (← b, e)

pub other_fails : (n l : ℕ) (xs : List ℕ) (f : Fault) → s.Other ≡ start (first xs) → f ≡ ByteOutOfPlace → l ≡ length xs → operand_at n xs ≡ fails f l
unfolding operand_at
other_fails n l xs f b ef el = rw (ef, el, ← b)

-- a run that begins with a digit is not empty
pub digit_some : (xs : List ℕ) → s.Digit ≡ start (first xs) → 0 < digit_run xs
digit_some [] e = let z : ◌≡◌ {A = ℕ} 0 1 = cc in absurd (omega arith)
digit_some (x ∷ xs) e = grind (arith, nat_tests)
