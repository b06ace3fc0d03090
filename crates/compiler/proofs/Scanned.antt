-- A scan of a line's bytes finds the letters and constants of its side.
-- The line is its written form, so the scan walks over each atom, sign and parenthesis as they were written; a constant's
-- digits are passed as one run, since what follows an atom is never a digit.
use Rattle.std.proofs.Common.{◌≡◌, ℕ, zero, suc, ◌+◌, ◌<◌, ◌≤◌, Bool, true, false, cond, List, [], ◌∷◌, ◌++◌, length, drop, decimal, sym, refl, ap, ◌∙◌, append_assoc, append-nil, arith}
use Rattle.std.proofs.lemmas.List.{length-append}
use Rattle.std.proofs.lemmas.Bool.Decides.{nat_tests}
use Rattle.rules.specs.declared.sign.Sign.{Sign}
use Rattle.rules.specs.declared.sign.Sign.TheVariants.{Sum, Product, Difference, Quotient, Distance, Remainder, Greater, Smaller}
use Rattle.rules.specs.declared.formula.Atom as atoms
use Rattle.rules.specs.declared.formula.Atom.TheVariants as a
use Rattle.rules.specs.declared.formula.Target as targets
use Rattle.rules.specs.declared.formula.Target.TheVariants as t
use Rattle.rules.specs.Codes.{sign_byte}
use Rattle.rules.specs.Tree.{Operand, atom, pair, Side, reading, single, both, Line}
use Rattle.rules.specs.Written.{written_atom, written, written_side, written_target}
use Rattle.rules.specs.Reading.{Read, got, between, is_digit, digit_run, Digits, constant_at, line_read}
use Rattle.rules.specs.Programs.{GoodAtom, GoodOperand, GoodSide, GoodTarget}
use Rattle.rules.specs.Mentions.{Mention, mention, atom_mentions, mentions, side_mentions}
use Rattle.laws.proofs.Digits.{constant_reads, decimal_digits}
use Rattle.laws.proofs.Back.{sign_digits}
use Rattle.laws.proofs.Lines.{lines_written, read_short}
use Rattle.compiler.specs.Scan.{scan, found}

skip : (l x p : ℕ) (b : Bool) (xs : List ℕ) → is_digit x ≡ false → between 65 90 x ≡ false → scan l b p (x ∷ xs) ≡ scan l false (suc p) xs
skip l x p b xs d u = rw (d, u)

settle : (l : ℕ) (b : Bool) (p : ℕ) (rest : List ℕ) → digit_run rest ≡ 0 → scan l b p rest ≡ scan l false p rest
settle l b p [] e = refl
settle l b p (x ∷ xs) e = let f : is_digit x ≡ false = grind (arith, nat_tests) in rw f

-- past the digits of a constant
run : (l : ℕ) (ds rest : List ℕ) (p : ℕ) → Digits ds → scan l true p (ds ++ rest) ≡ scan l true (p + length ds) rest
run l [] rest p f = ap (λ (k : ℕ). scan l true k rest) (omega arith)
run l (d ∷ ds) rest p f =
    let b : (48 ≤ d) × (d ≤ 57) = f 0 (omega arith) in
    let g : Digits ds = λ k h. f (suc k) (omega arith) in
    let t : is_digit d ≡ true = grind (arith, nat_tests) in
    rw t (run l ds rest (suc p) g ∙ ap (λ (k : ℕ). scan l true k rest) (omega arith))

digit_step : (l x p n : ℕ) (xs r : List ℕ) → is_digit x ≡ true → constant_at (x ∷ xs) ≡ got n r → scan l false p (x ∷ xs) ≡ mention l p (a.Constant n) ∷ scan l true (suc p) xs
digit_step l x p n xs r t e =
    ap (λ (b : Bool). cond b (found l p (constant_at (x ∷ xs)) (scan l true (suc p) xs)) (cond (between 65 90 x) (mention l p (a.Letter x) ∷ scan l false (suc p) xs) (scan l false (suc p) xs))) t
    ∙ ap (λ (c : Read ℕ). found l p c (scan l true (suc p) xs)) e

begins : (l : ℕ) (ds rest : List ℕ) (p n : ℕ) → 0 < length ds → Digits ds → constant_at (ds ++ rest) ≡ got n rest → digit_run rest ≡ 0 → scan l false p (ds ++ rest) ≡ mention l p (a.Constant n) ∷ scan l false (p + length ds) rest
begins l [] rest p n h f e z = absurd (omega arith)
begins l (d ∷ ds) rest p n h f e z =
    let b : (48 ≤ d) × (d ≤ 57) = f 0 (omega arith) in
    let g : Digits ds = λ k i. f (suc k) (omega arith) in
    let t : is_digit d ≡ true = grind (arith, nat_tests) in
    let u : suc p + length ds ≡ p + length (d ∷ ds) = omega arith in
    digit_step l d p n (ds ++ rest) rest t e ∙ ap (λ (others : List Mention). mention l p (a.Constant n) ∷ others) (run l ds rest (suc p) g ∙ (settle l true (suc p + length ds) rest z ∙ ap (λ (k : ℕ). scan l false k rest) u))

variable_plain : (v : ℕ) → 97 ≤ v → (is_digit v ≡ false) × (between 65 90 v ≡ false)
variable_plain v h = (grind (arith, nat_tests), grind (arith, nat_tests))

letter_plain : (g : ℕ) → 65 ≤ g → g ≤ 90 → (is_digit g ≡ false) × (between 65 90 g ≡ true)
letter_plain g h k = (grind (arith, nat_tests), grind (arith, nat_tests))

sign_plain : (s : Sign) → (is_digit (sign_byte s) ≡ false) × (between 65 90 (sign_byte s) ≡ false)
sign_plain Sum = (refl, refl)
sign_plain Product = (refl, refl)
sign_plain Difference = (refl, refl)
sign_plain Quotient = (refl, refl)
sign_plain Distance = (refl, refl)
sign_plain Remainder = (refl, refl)
sign_plain Greater = (refl, refl)
sign_plain Smaller = (refl, refl)

atom_scans : (x : atoms.Atom) (l p : ℕ) (rest : List ℕ) → GoodAtom x → digit_run rest ≡ 0 → scan l false p (written_atom x ++ rest) ≡ atom_mentions l p x ++ scan l false (p + length (written_atom x)) rest
atom_scans (a.Variable v) l p rest f z = let e : p + 1 ≡ suc p = omega arith in let w = variable_plain v f.0 in rw (w.0, w.1, e)
atom_scans (a.Pointed v) l p rest f z = let e : p + 2 ≡ suc (suc p) = omega arith in let w = variable_plain v f.0 in rw (w.0, w.1, e)
atom_scans (a.Letter g) l p rest f z = let e : p + 1 ≡ suc p = omega arith in let w = letter_plain g f.0 f.1 in rw (w.0, w.1, e)
atom_scans (a.Constant n) l p rest f z = let d = decimal_digits n f in begins l (decimal n) rest p n d.0 d.1 (constant_reads n rest f z) z

abbrev Scans : ℕ → Operand → ℕ → List ℕ → Type 0
Scans l x p rest = scan l false p (written x ++ rest) ≡ mentions l p x ++ scan l false (p + length (written x)) rest

joined : (l : ℕ) (x y : Operand) (s : Sign) (p k : ℕ) (rest : List ℕ) → k ≡ suc p + length (written x) → Scans l x (suc p) (sign_byte s ∷ (written y ++ (41 ∷ rest))) → Scans l y (suc k) (41 ∷ rest) → Scans l (pair x s y) p rest
joined l x y s p k rest e f g =
    let more : List ℕ = written y ++ (41 ∷ rest) in
    let u : suc k ≡ suc (suc p) + length (written x) = omega arith in
    let v : suc (suc k + length (written y)) ≡ p + length (written (pair x s y)) = simp length-append (omega arith) in
    let w : written (pair x s y) ++ rest ≡ 40 ∷ (written x ++ (sign_byte s ∷ more)) = rw (append_assoc, append_assoc) in
    let i : scan l false (suc p + length (written x)) (sign_byte s ∷ more) ≡ scan l false (suc k) more = skip l (sign_byte s) _ false more (sign_plain s).0 (sign_plain s).1 ∙ ap (λ (j : ℕ). scan l false (suc j) more) (sym e) in
    let o : scan l false (suc k) more ≡ mentions l (suc (suc p) + length (written x)) y ++ scan l false (p + length (written (pair x s y))) rest = g ∙ (ap (λ (j : ℕ). mentions l j y ++ scan l false (suc (suc k + length (written y))) rest) u ∙ ap (λ (j : ℕ). mentions l (suc (suc p) + length (written x)) y ++ scan l false j rest) v) in
    ap (scan l false p) w ∙ (f ∙ (ap (λ (q : List Mention). mentions l (suc p) x ++ q) (i ∙ o) ∙ sym (append_assoc (mentions l (suc p) x) (mentions l (suc (suc p) + length (written x)) y) (scan l false (p + length (written (pair x s y))) rest))))

operand_scans : (x : Operand) (d l p : ℕ) (rest : List ℕ) → GoodOperand d x → digit_run rest ≡ 0 → Scans l x p rest
operand_scans (atom x) d l p rest f z = atom_scans x l p rest f z
operand_scans (pair x s y) zero l p rest f z = absurd f
operand_scans (pair x s y) (suc d) l p rest f z = joined l x y s p (suc p + length (written x)) rest refl (operand_scans x d l (suc p) (sign_byte s ∷ (written y ++ (41 ∷ rest))) f.0 (sign_digits s (written y ++ (41 ∷ rest)))) (operand_scans y d l (suc (suc p + length (written x))) (41 ∷ rest) f.1 refl)

target_scans : (x : targets.Target) (l : ℕ) (b : Bool) (p : ℕ) → GoodTarget x → scan l b p (written_target x) ≡ []
target_scans (t.Variable v) l b p f = let w = variable_plain v f.0 in rw (w.0, w.1)
target_scans (t.Pointed v) l b p f = let w = variable_plain v f.0 in rw (w.0, w.1)
target_scans t.Label l b p f = refl
target_scans t.Place l b p f = refl

side_scans : (z : Side) (x : targets.Target) (l : ℕ) → GoodSide z → GoodTarget x → scan l false 3 (written_side z ++ (44 ∷ written_target x)) ≡ side_mentions l z
side_scans reading x l f g = target_scans x l false 5 g
side_scans (single y) x l f g = atom_scans y l 3 (44 ∷ written_target x) f refl ∙ (ap (λ (o : List Mention). atom_mentions l 3 y ++ o) (target_scans x l false _ g) ∙ append-nil (atom_mentions l 3 y))
side_scans (both y s z) x l f g =
    let more : List ℕ = written z ++ (44 ∷ written_target x) in
    let u : suc (3 + length (written y)) ≡ 4 + length (written y) = omega arith in
    let i = operand_scans y 16 l 3 (sign_byte s ∷ more) f.0 (sign_digits s more) in
    let j = operand_scans z 16 l (4 + length (written y)) (44 ∷ written_target x) f.1 refl in
    let c : scan l false (3 + length (written y)) (sign_byte s ∷ more) ≡ mentions l (4 + length (written y)) z = skip l (sign_byte s) _ false more (sign_plain s).0 (sign_plain s).1 ∙ (ap (λ (k : ℕ). scan l false k more) u ∙ (j ∙ (ap (λ (o : List Mention). mentions l (4 + length (written y)) z ++ o) (target_scans x l false _ g) ∙ append-nil (mentions l (4 + length (written y)) z)))) in
    ap (scan l false 3) (append_assoc (written y) (sign_byte s ∷ written z) (44 ∷ written_target x)) ∙ (i ∙ ap (λ (o : List Mention). mentions l 3 y ++ o) c)

pub line_scans : (l : ℕ) (p rest : List ℕ) (k : Line) → line_read p ≡ got k rest → scan l false 3 (drop 2 p) ≡ side_mentions l k.side
line_scans l p rest k e =
    let w = lines_written p rest k (read_short p rest k e).1 in
    ap (λ (o : List ℕ). scan l false 3 (drop 2 o)) w.1 ∙ side_scans k.side k.target l w.0.side w.0.target
