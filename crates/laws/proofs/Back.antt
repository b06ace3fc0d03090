-- An operand that is written is read again as what it was, and what was read is what was written.
use Rattle.std.proofs.Common.{◌≡◌, ℕ, zero, suc, ◌<◌, ◌≤◌, List, [], ◌∷◌, ◌++◌, drop, Some, None, decimal, Option, sym, refl, ap, ◌∙◌, subst, append_assoc, arith}
use Rattle.std.proofs.lemmas.Bool.Decides.{nat_tests}
use Rattle.rules.specs.declared.sign.Sign.{Sign}
use Rattle.rules.specs.declared.sign.Sign.TheVariants.{Sum, Product, Difference, Quotient, Distance, Remainder, Greater, Smaller}
use Rattle.rules.specs.declared.formula.Start.{Start}
use Rattle.rules.specs.declared.formula.Start.TheVariants as S
use Rattle.rules.specs.declared.formula.Atom.{Atom}
use Rattle.rules.specs.declared.formula.Atom.TheVariants as A
use Rattle.rules.specs.Codes.{sign_byte, code_table, sign_of}
use Rattle.rules.specs.Tree.{Operand, atom, pair}
use Rattle.rules.specs.Written.{written, written_atom}
use Rattle.rules.specs.Reading.{Read, got, fails, onward, first, start, digit_run, constant_at, variable_at, byte_at, sign_if, sign_at, second_by, pair_by, closed_by, operand_on, inside_at, operand_at}
use Rattle.rules.specs.Programs.{GoodAtom, GoodOperand}
use Rattle.laws.specs.Roundtrip.{OperandsRead, OperandsWritten}
use Rattle.laws.proofs.Digits.{constant_reads, constant_start, constant_back}

pub variable_start : (v : ℕ) → 97 ≤ v → v ≤ 122 → start v ≡ S.Variable
variable_start v l h = grind (arith, nat_tests)

pub letter_start : (v : ℕ) → 65 ≤ v → v ≤ 90 → start v ≡ S.Letter
letter_start v l h = grind (arith, nat_tests)

pub sign_reads : (s : Sign) (xs : List ℕ) → sign_at (sign_byte s ∷ xs) ≡ got s xs
sign_reads Sum xs = refl
sign_reads Product xs = refl
sign_reads Difference xs = refl
sign_reads Quotient xs = refl
sign_reads Distance xs = refl
sign_reads Remainder xs = refl
sign_reads Greater xs = refl
sign_reads Smaller xs = refl

pub sign_digits : (s : Sign) (xs : List ℕ) → digit_run (sign_byte s ∷ xs) ≡ 0
sign_digits Sum xs = refl
sign_digits Product xs = refl
sign_digits Difference xs = refl
sign_digits Quotient xs = refl
sign_digits Distance xs = refl
sign_digits Remainder xs = refl
sign_digits Greater xs = refl
sign_digits Smaller xs = refl

pub variable_reads : (v : ℕ) (xs : List ℕ) → 97 ≤ v → v ≤ 122 → variable_at (v ∷ xs) ≡ got v xs
variable_reads v xs l h = grind (arith, nat_tests)

pub closed_step : (n : ℕ) (xs : List ℕ) → operand_at (suc n) (40 ∷ xs) ≡ closed_by (operand_at n) xs
unfolding operand_at inside_at
closed_step n xs = refl

pub atom_reads : (x : Atom) (n : ℕ) (rest : List ℕ) → GoodAtom x → digit_run rest ≡ 0 → operand_at n (written_atom x ++ rest) ≡ got (atom x) rest
unfolding operand_at
atom_reads (A.Variable v) n rest f e = rw (variable_start v f.0 f.1)
atom_reads (A.Pointed v) n rest f e = rw (variable_reads v rest f.0 f.1)
atom_reads (A.Letter g) n rest f e = rw (letter_start g f.0 f.1)
atom_reads (A.Constant m) n rest f e = rw (constant_start m rest f, constant_reads m rest f e)

pub reads_written : OperandsRead
reads_written (atom x) n rest f e = atom_reads x n rest f e
reads_written (pair l s r) zero rest f e = absurd f
reads_written (pair l s r) (suc n) rest f e =
    let more : List ℕ = written r ++ (41 ∷ rest) in
    let right : operand_at n (written r ++ (41 ∷ rest)) ≡ got r (41 ∷ rest) = reads_written r n (41 ∷ rest) f.1 refl in
    let left : operand_at n (written l ++ (sign_byte s ∷ more)) ≡ got l (sign_byte s ∷ more) = reads_written l n (sign_byte s ∷ more) f.0 (sign_digits s more) in
    rw (append_assoc, append_assoc, closed_step, left, sign_reads, right)

-- the other way: what was read is what was written

pub onward_back : {X Y : Type 0} (x : Read X) (f : X → List ℕ → Read Y) (t : Y) (rest : List ℕ) → onward x f ≡ got t rest → (y : X) × (ys : List ℕ) × (x ≡ got y ys) × (f y ys ≡ got t rest)
onward_back (got y ys) f t rest e = (y, ys, refl, e)
onward_back (fails k l) f t rest e = let z : ◌≡◌ {A = ℕ} 0 1 = cc in absurd (omega arith)

pub got_value : {X : Type 0} {x y : X} {xs ys : List ℕ} → got x xs ≡ got y ys → x ≡ y
got_value e = cc

pub got_rest : {X : Type 0} {x y : X} {xs ys : List ℕ} → got x xs ≡ got y ys → xs ≡ ys
got_rest e = cc

pub front : (xs : List ℕ) → 0 < first xs → xs ≡ first xs ∷ drop 1 xs
front [] h = absurd (omega arith)
front (x ∷ xs) h = refl

pub byte_back : (b : ℕ) (xs rest : List ℕ) (c : ℕ) → 0 < b → byte_at b xs ≡ got c rest → xs ≡ b ∷ rest
byte_back b xs rest c h e =
    let f : first xs ≡ b = grind (arith, nat_tests) in
    let r : drop 1 xs ≡ rest = grind (arith, nat_tests) in
    let g : xs ≡ first xs ∷ drop 1 xs = front xs (omega arith) in
    cc

pub variable_back : (xs rest : List ℕ) (v : ℕ) → variable_at xs ≡ got v rest → (97 ≤ v) × (v ≤ 122) × (xs ≡ v ∷ rest)
variable_back xs rest v e =
    let b : (97 ≤ first xs) × (first xs ≤ 122) = grind (arith, nat_tests) in
    let f : first xs ≡ v = grind (arith, nat_tests) in
    let r : drop 1 xs ≡ rest = grind (arith, nat_tests) in
    let g : xs ≡ first xs ∷ drop 1 xs = front xs (omega arith) in
    (omega arith, omega arith, cc)

pub sign_of_lem : (b : ℕ) (s : Sign) → sign_of b code_table ≡ Some s → b ≡ sign_byte s
sign_of_lem b s e = grind (arith, nat_tests)

pub sign_byte_some : (s : Sign) → 0 < sign_byte s
sign_byte_some Sum = omega arith
sign_byte_some Product = omega arith
sign_byte_some Difference = omega arith
sign_byte_some Quotient = omega arith
sign_byte_some Distance = omega arith
sign_byte_some Remainder = omega arith
sign_byte_some Greater = omega arith
sign_byte_some Smaller = omega arith

sign_if_lem : (o : Option Sign) (xs rest : List ℕ) (s : Sign) → sign_if o xs ≡ got s rest → (o ≡ Some s) × (drop 1 xs ≡ rest)
sign_if_lem (Some x) xs rest s e = (ap Some (got_value e), got_rest e)
sign_if_lem None xs rest s e = let z : ◌≡◌ {A = ℕ} 0 1 = cc in absurd (omega arith)

pub sign_back : (xs rest : List ℕ) (s : Sign) → sign_at xs ≡ got s rest → xs ≡ sign_byte s ∷ rest
sign_back xs rest s e =
    let i = sign_if_lem (sign_of (first xs) code_table) xs rest s e in
    let f : first xs ≡ sign_byte s = sign_of_lem (first xs) s i.0 in
    let p : 0 < sign_byte s = sign_byte_some s in
    let g : xs ≡ first xs ∷ drop 1 xs = front xs (omega arith) in
    cc

pub start_parenthesis : (b : ℕ) → S.Parenthesis ≡ start b → b ≡ 40
start_parenthesis b e = grind (arith, nat_tests)

pub start_variable : (b : ℕ) → S.Variable ≡ start b → (97 ≤ b) × (b ≤ 122)
start_variable b e = grind (arith, nat_tests)

pub start_pointer : (b : ℕ) → S.Pointer ≡ start b → b ≡ 64
start_pointer b e = grind (arith, nat_tests)

pub start_letter : (b : ℕ) → S.Letter ≡ start b → (65 ≤ b) × (b ≤ 90)
start_letter b e = grind (arith, nat_tests)

pub start_digit : (xs : List ℕ) → S.Digit ≡ start (first xs) → 0 < digit_run xs
start_digit [] e = let z : ◌≡◌ {A = ℕ} 0 1 = cc in absurd (omega arith)
start_digit (x ∷ xs) e = grind (arith, nat_tests)

abbrev Back : ℕ → List ℕ → List ℕ → Operand → Type 0
Back n xs rest x = GoodOperand n x × (xs ≡ written x ++ rest)

-- what a second and a pair were read from, one step at a time
abbrev pub FromSecond : (List ℕ → Read Operand) → List ℕ → List ℕ → Sign × Operand → Type 0
FromSecond f zs ys q = (ws : List ℕ) × (sign_at zs ≡ got q.0 ws) × (f ws ≡ got q.1 ys)

abbrev pub FromPair : (List ℕ → Read Operand) → List ℕ → List ℕ → Operand → Type 0
FromPair f xs ys p = (l : Operand) × (q : Sign × Operand) × (zs : List ℕ) × (f xs ≡ got l zs) × FromSecond f zs ys q × (pair l q.0 q.1 ≡ p)

pub from_second : (f : List ℕ → Read Operand) (zs ys : List ℕ) (q : Sign × Operand) → second_by f zs ≡ got q ys → FromSecond f zs ys q
from_second f zs ys q e = let a = onward_back (sign_at zs) _ q ys e in next a.0 a.1 a.2 a.3
  where
    next : (s : Sign) (ws : List ℕ) → sign_at zs ≡ got s ws → onward {Y = Sign × Operand} (f ws) (λ r vs. got (s, r) vs) ≡ got q ys → FromSecond f zs ys q
    next s ws e₁ e₂ =
        let b = onward_back (f ws) _ q ys e₂ in
        let g : ◌≡◌ {A = Sign × Operand} (s, b.0) q = got_value b.3 in
        let a : s ≡ q.0 = ap (λ (o : Sign × Operand). o.0) g in
        let c : b.0 ≡ q.1 = ap (λ (o : Sign × Operand). o.1) g in
        let d : b.1 ≡ ys = got_rest b.3 in
        let h : f ws ≡ got b.0 b.1 = b.2 in
        (ws, cc, cc)

pub from_pair : (f : List ℕ → Read Operand) (xs ys : List ℕ) (p : Operand) → pair_by f xs ≡ got p ys → FromPair f xs ys p
from_pair f xs ys p e = let a = onward_back (f xs) _ p ys e in next a.0 a.1 a.2 a.3
  where
    next : (l : Operand) (zs : List ℕ) → f xs ≡ got l zs → onward (second_by f zs) (λ q vs. got (pair l q.0 q.1) vs) ≡ got p ys → FromPair f xs ys p
    next l zs e₁ e₂ =
        let b = onward_back (second_by f zs) _ p ys e₂ in
        let d : b.1 ≡ ys = got_rest b.3 in
        let h : second_by f zs ≡ got b.0 ys = b.2 ∙ ap (λ vs. got b.0 vs) d in
        (l, b.0, zs, e₁, from_second f zs ys b.0 h, got_value b.3)

joined : (n : ℕ) (l r : Operand) (s : Sign) (xs ys zs ws rest : List ℕ) → Back n xs ys l → ys ≡ sign_byte s ∷ zs → Back n zs ws r → ws ≡ 41 ∷ rest → Back (suc n) (40 ∷ xs) rest (pair l s r)
joined n l r s xs ys zs ws rest a b c d =
    ((a.0, c.0), rw (append_assoc, append_assoc) (ap (λ us. 40 ∷ us) (a.1 ∙ ap (λ us. written l ++ us) (b ∙ ap (λ us. sign_byte s ∷ us) (c.1 ∙ ap (λ us. written r ++ us) d)))))

closed_back : (n : ℕ) → ((xs rest : List ℕ) (t : Operand) → operand_at n xs ≡ got t rest → Back n xs rest t) → (xs rest : List ℕ) (t : Operand) → closed_by (operand_at n) xs ≡ got t rest → Back (suc n) (40 ∷ xs) rest t
closed_back n ih xs rest t e =
    let p = onward_back (pair_by (operand_at n) xs) _ t rest e in
    closes p.0 p.1 (from_pair (operand_at n) xs p.1 p.0 p.2) p.3
  where
    closed : (p : Operand) (ys us : List ℕ) (b : ℕ) → FromPair (operand_at n) xs ys p → byte_at 41 ys ≡ got b us → got p us ≡ got t rest → Back (suc n) (40 ∷ xs) rest t
    closed p ys us b (l, q, zs, el, (ws, es, er), ep) h e =
        let a : Back (suc n) (40 ∷ xs) us (pair l q.0 q.1) = joined n l q.1 q.0 xs zs ws ys us (ih xs zs l el) (sign_back zs ws q.0 es) (ih ws ys q.1 er) (byte_back 41 ys us b (omega arith) h) in
        subst (λ v. Back (suc n) (40 ∷ xs) rest v) (ep ∙ got_value e) (subst (λ v. Back (suc n) (40 ∷ xs) v (pair l q.0 q.1)) (got_rest e) a)

    closes : (p : Operand) (ys : List ℕ) → FromPair (operand_at n) xs ys p → onward (byte_at 41 ys) (λ _ us. got p us) ≡ got t rest → Back (suc n) (40 ∷ xs) rest t
    closes p ys g e = let c = onward_back (byte_at 41 ys) _ t rest e in closed p ys c.1 c.0 g c.2 c.3

on : (n : ℕ) → ((xs rest : List ℕ) (t : Operand) → inside_at n xs ≡ got t rest → first xs ≡ 40 → Back n xs rest t) → (xs rest : List ℕ) (t : Operand) → (k : Start) → k ≡ start (first xs) → operand_on (inside_at n) k xs ≡ got t rest → Back n xs rest t
on n inside xs rest t S.Parenthesis s e = inside xs rest t e (start_parenthesis (first xs) s)
on n inside xs rest t S.Variable s e =
    let b = start_variable (first xs) s in
    subst (λ v. Back n xs rest v) (got_value e) (b, front xs (omega arith) ∙ ap (λ us. first xs ∷ us) (got_rest e))
on n inside xs rest t S.Pointer s e =
    let b = start_pointer (first xs) s in
    let p = onward_back (variable_at (drop 1 xs)) _ t rest e in
    let w = variable_back (drop 1 xs) p.1 p.0 p.2 in
    subst (λ v. Back n xs rest v) (got_value p.3) ((w.0, w.1), front xs (omega arith) ∙ (ap (λ c. c ∷ drop 1 xs) b ∙ (ap (λ us. 64 ∷ us) w.2 ∙ ap (λ us. 64 ∷ (p.0 ∷ us)) (got_rest p.3))))
on n inside xs rest t S.Letter s e =
    let b = start_letter (first xs) s in
    subst (λ v. Back n xs rest v) (got_value e) (b, front xs (omega arith) ∙ ap (λ us. first xs ∷ us) (got_rest e))
on n inside xs rest t S.Digit s e =
    let p = onward_back (constant_at xs) _ t rest e in
    let w = constant_back xs p.1 p.0 p.2 (start_digit xs s) in
    subst (λ v. Back n xs rest v) (got_value p.3) (w.0, w.1 ∙ ap (λ us. decimal p.0 ++ us) (got_rest p.3))
on n inside xs rest t S.Other s e = let z : ◌≡◌ {A = ℕ} 0 1 = cc in absurd (omega arith)

pub inside_zero : (xs rest : List ℕ) (t : Operand) → inside_at 0 xs ≡ got t rest → ⊥
unfolding inside_at
inside_zero xs rest t e = let z : ◌≡◌ {A = ℕ} 0 1 = cc in omega arith

pub inside_suc : (n : ℕ) (xs : List ℕ) → inside_at (suc n) xs ≡ closed_by (operand_at n) (drop 1 xs)
unfolding inside_at operand_at
inside_suc n xs = refl

pub operand_on_lem : (n : ℕ) (xs : List ℕ) → operand_at n xs ≡ operand_on (inside_at n) (start (first xs)) xs
unfolding operand_at
operand_on_lem n xs = refl

pub writes_read : OperandsWritten
writes_read zero xs rest t e = on zero (λ ys us v q _. absurd (inside_zero ys us v q)) xs rest t (start (first xs)) refl (sym (operand_on_lem zero xs) ∙ e)
writes_read (suc n) xs rest t e = on (suc n) (λ ys us v q b. subst (λ w. Back (suc n) w us v) (ap (λ c. c ∷ drop 1 ys) (sym b) ∙ sym (front ys (omega arith))) (closed_back n (writes_read n) (drop 1 ys) us v (sym (inside_suc n ys) ∙ q))) xs rest t (start (first xs)) refl (sym (operand_on_lem (suc n) xs) ∙ e)
